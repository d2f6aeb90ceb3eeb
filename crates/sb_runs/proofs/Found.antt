-- What a run has for a keyed window, and what stays a run.
use Rattle.std.proofs.Common.{◌≡◌, ℕ, zero, suc, ◌+◌, ◌-◌, ◌<◌, IsTrue, cond, List, [], ◌∷◌, ◌++◌, length, take, drop, get_or, Some, None, append_assoc, sym, subst, refl, ap, ◌∙◌, arith}
use Rattle.std.specs.List.{AllByRecursion}
use Rattle.std.specs.List.Sorted.{IsStrictlySortedBy}
use Rattle.std.specs.BTreeMap.{is_at}
use Rattle.std.specs.Map.{keys_of}
use Rattle.std.specs.Ordering.{is_eq, is_lt, ordering_reverse}
use Rattle.std.specs.declared.cmp.Ordering.{Ordering}
use Rattle.std.specs.declared.cmp.Ordering.TheVariants.{Less, Equal, Greater}
use Rattle.std.proofs.Math.Seq.{take-length}
use Rattle.std.proofs.lemmas.List.{take_more}
use Rattle.std.proofs.lemmas.Map.Keys.{sorted_head, sorted_tail}
use Rattle.sb_window.proofs.records.Elements.{every}
use Rattle.sb_window.specs.declared.keyed_window.KeyedWindow.{KeyedWindow}
use Rattle.sb_window.specs.Windows.{keyed_window_cmp}
use Rattle.sb_window.specs.Gatherings.{joined_value}
use Rattle.sb_window.proofs.Gathering.{joined_none}
use Rattle.sb_window.proofs.Rows.{keyed_windows_total, exact_keyed_windows}
use Rattle.sb_runs.specs.Runs.{IsRun, found}

-- ---- what holds of all windows of entries
pub all-right : {V : Type 0} (P : KeyedWindow → Type 0) (xs ys : List (KeyedWindow × V)) → AllByRecursion P (keys_of (xs ++ ys)) → AllByRecursion P (keys_of ys)
all-right P [] ys all = all
all-right P (x ∷ xs) ys all = all-right P xs ys all.1

all-left : {V : Type 0} (P : KeyedWindow → Type 0) (xs ys : List (KeyedWindow × V)) → AllByRecursion P (keys_of (xs ++ ys)) → AllByRecursion P (keys_of xs)
all-left P [] ys all = tt
all-left P (x ∷ xs) ys all = (all.0, all-left P xs ys all.1)

all-put : {V : Type 0} (P : KeyedWindow → Type 0) (e f : KeyedWindow × V) (xs ys zs : List (KeyedWindow × V)) → AllByRecursion P (keys_of (xs ++ e ∷ ys)) → AllByRecursion P (keys_of (xs ++ f ∷ zs)) → AllByRecursion P (keys_of (xs ++ e ∷ f ∷ zs))
all-put P e f [] ys zs one other = (one.0, other)
all-put P e f (x ∷ xs) ys zs one other = (one.0, all-put P e f xs ys zs one.1 other.1)

all-push : {V : Type 0} (P : KeyedWindow → Type 0) (e f : KeyedWindow × V) (xs : List (KeyedWindow × V)) → (P e.0 → P f.0) → AllByRecursion P (keys_of (xs ++ e ∷ [])) → AllByRecursion P (keys_of (xs ++ e ∷ f ∷ []))
all-push P e f [] then all = (all.0, (then all.0, tt))
all-push P e f (x ∷ xs) then all = (all.0, all-push P e f xs then all.1)

-- ---- what stays a run
pub run-none : IsStrictlySortedBy keyed_window_cmp []
unfolding IsStrictlySortedBy
run-none = tt

pub run-cons : {V : Type 0} (e : KeyedWindow × V) (es : List (KeyedWindow × V)) → AllByRecursion (λ k. keyed_window_cmp e.0 k ≡ Less) (keys_of es) → IsRun es → IsRun (e ∷ es)
unfolding IsStrictlySortedBy
run-cons e es before run = (before, run)

pub run-one : {V : Type 0} (e : KeyedWindow × V) → IsRun (e ∷ [])
run-one e = run-cons e [] tt run-none

pub run-first : {V : Type 0} (e : KeyedWindow × V) (es : List (KeyedWindow × V)) → IsRun (e ∷ es) → AllByRecursion (λ k. keyed_window_cmp e.0 k ≡ Less) (keys_of es)
run-first e es run = sorted_head keyed_window_cmp e.0 (keys_of es) run

pub run-rest : {V : Type 0} (e : KeyedWindow × V) (es : List (KeyedWindow × V)) → IsRun (e ∷ es) → IsRun es
run-rest e es run = sorted_tail keyed_window_cmp e.0 (keys_of es) run

pub run-right : {V : Type 0} (xs ys : List (KeyedWindow × V)) → IsRun (xs ++ ys) → IsRun ys
run-right [] ys run = run
run-right (x ∷ xs) ys run = run-right xs ys (run-rest x (xs ++ ys) run)

pub run-left : {V : Type 0} (xs ys : List (KeyedWindow × V)) → IsRun (xs ++ ys) → IsRun xs
run-left [] ys run = run-none
run-left (x ∷ xs) ys run = run-cons x xs (all-left (λ k. keyed_window_cmp x.0 k ≡ Less) xs ys (run-first x (xs ++ ys) run)) (run-left xs ys (run-rest x (xs ++ ys) run))

pub run-drop : {V : Type 0} (n : ℕ) (es : List (KeyedWindow × V)) → IsRun es → IsRun (drop n es)
run-drop zero es run = run
run-drop (suc n) [] run = run
run-drop (suc n) (e ∷ es) run = run-drop n es (run-rest e es run)

-- an entry that stands between others and an entry behind these
pub run-put : {V : Type 0} (e f : KeyedWindow × V) (xs ys zs : List (KeyedWindow × V)) → keyed_window_cmp e.0 f.0 ≡ Less → IsRun (xs ++ e ∷ ys) → IsRun (xs ++ f ∷ zs) → IsRun (xs ++ e ∷ f ∷ zs)
run-put e f [] ys zs less one other =
    run-cons e (f ∷ zs) (less, every (λ k h. keyed_windows_total.trans e.0 f.0 k less h) (keys_of zs) (run-first f zs other)) other
run-put e f (x ∷ xs) ys zs less one other =
    run-cons x (xs ++ e ∷ f ∷ zs) (all-put (λ k. keyed_window_cmp x.0 k ≡ Less) e f xs ys zs (run-first x (xs ++ e ∷ ys) one) (run-first x (xs ++ f ∷ zs) other))
    (run-put e f xs ys zs less (run-rest x (xs ++ e ∷ ys) one) (run-rest x (xs ++ f ∷ zs) other))

-- an entry behind the last
pub run-push : {V : Type 0} (e f : KeyedWindow × V) (xs : List (KeyedWindow × V)) → keyed_window_cmp e.0 f.0 ≡ Less → IsRun (xs ++ e ∷ []) → IsRun (xs ++ e ∷ f ∷ [])
run-push e f [] less run = run-cons e (f ∷ []) (less, tt) (run-one f)
run-push e f (x ∷ xs) less run =
    run-cons x (xs ++ e ∷ f ∷ []) (all-push (λ k. keyed_window_cmp x.0 k ≡ Less) e f xs (λ h. keyed_windows_total.trans x.0 e.0 f.0 h less) (run-first x (xs ++ e ∷ []) run))
    (run-push e f xs less (run-rest x (xs ++ e ∷ []) run))

-- a run behind another, where the last window of that one is before the first
all-both : {V : Type 0} (P : KeyedWindow → Type 0) (xs ys : List (KeyedWindow × V)) → AllByRecursion P (keys_of xs) → AllByRecursion P (keys_of ys) → AllByRecursion P (keys_of (xs ++ ys))
all-both P [] ys one other = other
all-both P (x ∷ xs) ys one other = (one.0, all-both P xs ys one.1 other)

run-both : {V : Type 0} (xs : List (KeyedWindow × V)) (e f : KeyedWindow × V) (ys : List (KeyedWindow × V)) → keyed_window_cmp e.0 f.0 ≡ Less → IsRun (xs ++ e ∷ []) → IsRun (f ∷ ys) → IsRun ((xs ++ e ∷ []) ++ f ∷ ys)
run-both [] e f ys less one other = run-put e f [] [] ys less one other
run-both (x ∷ xs) e f ys less one other =
    let first : AllByRecursion (λ k. keyed_window_cmp x.0 k ≡ Less) (keys_of (xs ++ e ∷ [])) = run-first x (xs ++ e ∷ []) one in
    let before : keyed_window_cmp x.0 f.0 ≡ Less = keyed_windows_total.trans x.0 e.0 f.0 (all-right (λ k. keyed_window_cmp x.0 k ≡ Less) xs (e ∷ []) first).0 less in
    run-cons x ((xs ++ e ∷ []) ++ f ∷ ys)
    (all-both (λ k. keyed_window_cmp x.0 k ≡ Less) (xs ++ e ∷ []) (f ∷ ys) first (before, every (λ k h. keyed_windows_total.trans x.0 f.0 k before h) (keys_of ys) (run-first f ys other)))
    (run-both xs e f ys less (run-rest x (xs ++ e ∷ []) one) other)

less : (o : Ordering) → IsTrue (is_lt o) → o ≡ Less
less Less h = refl
less Equal h = cc
less Greater h = cc

-- a list that is known by its last entry
pub whole-by-last : {V : Type 0} (xs : List (KeyedWindow × V)) (count : ℕ) (last : KeyedWindow × V) → count ≡ length xs → 0 < count → last ≡ get_or xs (count - 1) last → xs ≡ take (count - 1) xs ++ last ∷ []
whole-by-last xs count last long some last_is =
    let all : count - 1 + 1 ≡ length xs = omega arith in
    let inside : count - 1 < length xs = omega arith in
    sym (take-length xs) ∙ ap (λ n. take n xs) (sym all) ∙ take_more xs (count - 1) last inside ∙ ap (λ x. take (count - 1) xs ++ x ∷ []) (sym last_is)

-- the same of lists that are known by their ends
pub run-behind : {V : Type 0} (xs ys : List (KeyedWindow × V)) (count : ℕ) (last first : KeyedWindow × V) → count ≡ length xs → 0 < count → last ≡ get_or xs (count - 1) last → first ≡ get_or ys 0 first → 0 < length ys
    → IsTrue (is_lt (keyed_window_cmp last.0 first.0)) → IsRun xs → IsRun ys → IsRun (xs ++ ys)
run-behind xs [] count last first long some last_is first_is some_behind before run other = absurd (omega arith)
run-behind {V} xs (y ∷ ys) count last first long some last_is first_is some_behind before run other =
    let whole : xs ≡ take (count - 1) xs ++ last ∷ [] = whole-by-last xs count last long some last_is in
    subst (λ (l : List (KeyedWindow × V)). IsRun (l ++ y ∷ ys)) (sym whole)
    (run-both (take (count - 1) xs) last y ys (ap (λ (e : KeyedWindow × V). keyed_window_cmp last.0 e.0) (sym first_is) ∙ less (keyed_window_cmp last.0 first.0) before)
    (subst (λ (l : List (KeyedWindow × V)). IsRun l) whole run) other)

-- another value
pub keys-same : {V : Type 0} (k : KeyedWindow) (v w : V) (xs ys : List (KeyedWindow × V)) → keys_of (xs ++ (k, v) ∷ ys) ≡ keys_of (xs ++ (k, w) ∷ ys)
keys-same k v w [] ys = refl
keys-same k v w (x ∷ xs) ys = ap (λ ks. x.0 ∷ ks) (keys-same k v w xs ys)

-- ---- what is found
-- no window that is after q is q
pub none-before : {V : Type 0} (q : KeyedWindow) (es : List (KeyedWindow × V)) → AllByRecursion (λ k. keyed_window_cmp q k ≡ Less) (keys_of es) → found es q ≡ None
none-before q [] all = refl
none-before q (e ∷ es) all = ap (λ o. cond (is_eq o) (Some e.1) (found es q)) all.0 ∙ none-before q es all.1

-- nor is one behind an entry with the window q
pub none-behind : {V : Type 0} (e : KeyedWindow × V) (es : List (KeyedWindow × V)) (q : KeyedWindow) → keyed_window_cmp q e.0 ≡ Equal → IsRun (e ∷ es) → found es q ≡ None
none-behind e es q c run = none-before q es (every (λ k h. keyed_windows_total.congr q e.0 k c ∙ h) (keys_of es) (run-first e es run))

-- two lists that make one run have together what each has
pub found-apart : {V : Type 0} (join : V → V → V) (xs ys : List (KeyedWindow × V)) → IsRun (xs ++ ys) → (q : KeyedWindow) → joined_value join (found xs q) (found ys q) ≡ found (xs ++ ys) q
found-apart join [] ys run q = refl
found-apart join (x ∷ xs) ys run q = by_case (keyed_window_cmp q x.0) refl (found-apart join xs ys (run-rest x (xs ++ ys) run) q)
  where
    by_case : (o : Ordering) → keyed_window_cmp q x.0 ≡ o → joined_value join (found xs q) (found ys q) ≡ found (xs ++ ys) q
        → joined_value join (cond (is_eq o) (Some x.1) (found xs q)) (found ys q) ≡ cond (is_eq o) (Some x.1) (found (xs ++ ys) q)
    by_case Less c rest = rest
    by_case Equal c rest =
        ap (joined_value join (Some x.1))
        (none-before q ys (every (λ k h. keyed_windows_total.congr q x.0 k c ∙ h) (keys_of ys) (all-right (λ k. keyed_window_cmp x.0 k ≡ Less) xs ys (run-first x (xs ++ ys) run))))
    by_case Greater c rest = rest

-- an entry among others
pub found-put : {V : Type 0} (e : KeyedWindow × V) (xs ys : List (KeyedWindow × V)) → IsRun (xs ++ e ∷ ys) → (q : KeyedWindow) → found (xs ++ e ∷ ys) q ≡ cond (is_at (keyed_window_cmp q) e.0) (Some e.1) (found (xs ++ ys) q)
found-put e [] ys run q = refl
found-put e (x ∷ xs) ys run q = by_case (keyed_window_cmp q x.0) refl (found-put e xs ys (run-rest x (xs ++ e ∷ ys) run) q)
  where
    before : keyed_window_cmp x.0 e.0 ≡ Less
    before = (all-right (λ k. keyed_window_cmp x.0 k ≡ Less) xs (e ∷ ys) (run-first x (xs ++ e ∷ ys) run)).0

    by_case : (o : Ordering) → keyed_window_cmp q x.0 ≡ o → found (xs ++ e ∷ ys) q ≡ cond (is_at (keyed_window_cmp q) e.0) (Some e.1) (found (xs ++ ys) q)
        → cond (is_eq o) (Some x.1) (found (xs ++ e ∷ ys) q) ≡ cond (is_at (keyed_window_cmp q) e.0) (Some e.1) (cond (is_eq o) (Some x.1) (found (xs ++ ys) q))
    by_case Less c rest = rest
    by_case Equal c rest = sym (ap (λ o. cond (is_eq o) (Some e.1) (Some x.1)) (keyed_windows_total.congr q x.0 e.0 c ∙ before))
    by_case Greater c rest = rest

-- without it there is none with its window
pub found-none : {V : Type 0} (e : KeyedWindow × V) (xs ys : List (KeyedWindow × V)) → IsRun (xs ++ e ∷ ys) → found (xs ++ ys) e.0 ≡ None
found-none e [] ys run = none-before e.0 ys (run-first e ys run)
found-none e (x ∷ xs) ys run =
    let before : keyed_window_cmp x.0 e.0 ≡ Less = (all-right (λ k. keyed_window_cmp x.0 k ≡ Less) xs (e ∷ ys) (run-first x (xs ++ e ∷ ys) run)).0 in
    ap (λ o. cond (is_eq o) (Some x.1) (found (xs ++ ys) e.0)) (keyed_windows_total.antisymm e.0 x.0 ∙ ap ordering_reverse before)
    ∙ found-none e xs ys (run-rest x (xs ++ e ∷ ys) run)

-- ---- a value joined to the last
module _ {V : Type 0} (join : V → V → V) where
  pub last-run : (xs : List (KeyedWindow × V)) (last : KeyedWindow) (held value : V) → IsRun (xs ++ (last, held) ∷ []) → IsRun (xs ++ (last, join held value) ∷ [])
  last-run xs last held value run = subst (IsStrictlySortedBy keyed_window_cmp) (keys-same last held (join held value) xs []) run

  pub last-joined : (xs : List (KeyedWindow × V)) (last window : KeyedWindow) (held value : V) → keyed_window_cmp last window ≡ Equal → IsRun (xs ++ (last, held) ∷ [])
      → (q : KeyedWindow) → found (xs ++ (last, join held value) ∷ []) q ≡ joined_value join (found (xs ++ (last, held) ∷ []) q) (found ((window, value) ∷ []) q)
  last-joined xs last window held value same run q =
      found-put (last, join held value) xs [] (last-run xs last held value run) q
      ∙ by_case (keyed_window_cmp q last)
      ∙ (λ i. joined_value join (sym (found-put (last, held) xs [] run q) i) (found ((exact_keyed_windows last window same i, value) ∷ []) q))
    where
      by_case : (o : Ordering) → cond (is_eq o) (Some (join held value)) (found (xs ++ []) q) ≡ joined_value join (cond (is_eq o) (Some held) (found (xs ++ []) q)) (cond (is_eq o) (Some value) None)
      by_case Less = sym (joined_none join (found (xs ++ []) q))
      by_case Equal = refl
      by_case Greater = sym (joined_none join (found (xs ++ []) q))

  -- the same of a list that is known by parts
  pub joined-last : (xs es all : List (KeyedWindow × V)) (last window : KeyedWindow) (held value : V) → es ≡ xs ++ (last, held) ∷ [] → IsRun es → keyed_window_cmp last window ≡ Equal → all ≡ xs ++ (last, join held value) ∷ []
      → (q : KeyedWindow) → found all q ≡ joined_value join (found es q) (found ((window, value) ∷ []) q)
  joined-last xs es all last window held value es_is run same all_is q =
      ap (λ (l : List (KeyedWindow × V)). found l q) all_is
      ∙ last-joined xs last window held value same (subst (λ (l : List (KeyedWindow × V)). IsRun l) es_is run) q
      ∙ ap (λ (l : List (KeyedWindow × V)). joined_value join (found l q) (found ((window, value) ∷ []) q)) (sym es_is)

-- an entry behind the last of a list that is known by parts
pub pushed-run : {V : Type 0} (xs es all : List (KeyedWindow × V)) (e f : KeyedWindow × V) → es ≡ xs ++ e ∷ [] → IsRun es → keyed_window_cmp e.0 f.0 ≡ Less → all ≡ (xs ++ e ∷ []) ++ f ∷ [] → IsRun all
pushed-run {V} xs es all e f es_is run less all_is =
    subst (λ (l : List (KeyedWindow × V)). IsRun l) (sym (all_is ∙ append_assoc xs (e ∷ []) (f ∷ [])))
    (run-push e f xs less (subst (λ (l : List (KeyedWindow × V)). IsRun l) es_is run))

pub pushed-joined : {V : Type 0} (join : V → V → V) (xs es all : List (KeyedWindow × V)) (e f : KeyedWindow × V) → es ≡ xs ++ e ∷ [] → IsRun es → keyed_window_cmp e.0 f.0 ≡ Less → all ≡ (xs ++ e ∷ []) ++ f ∷ []
    → (q : KeyedWindow) → found all q ≡ joined_value join (found es q) (found (f ∷ []) q)
pushed-joined {V} join xs es all e f es_is run less all_is q =
    let whole : all ≡ es ++ f ∷ [] = all_is ∙ ap (λ l. l ++ f ∷ []) (sym es_is) in
    ap (λ (l : List (KeyedWindow × V)). found l q) whole
    ∙ sym (found-apart join es (f ∷ []) (subst (λ (l : List (KeyedWindow × V)). IsRun l) whole (pushed-run xs es all e f es_is run less all_is)) q)
