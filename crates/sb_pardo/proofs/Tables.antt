-- A table's entries, and the map that they make.
use Rattle.std.proofs.Common.{◌≡◌, ◌<◌, ◌≤◌, ℕ, true, false, cond, Option, Some, None, IfSome, Result, Ok, Err, List, [], ◌∷◌, length, set, refl, sym, ap, subst, ◌∙◌, ⊎_elim, arith, Ordering, Less, Equal, Greater, is_eq, nat_cmp}
use Rattle.std.specs.Result.{OnErr}
use Rattle.std.specs.Ordering.{eq_by_cmp}
use Rattle.std.proofs.lemmas.Bool.{cases_eq, cond-false, cond-true, cond_both, false_from_ne_true, ltb-false, true≢false}
use Rattle.std.proofs.lemmas.List.{get_or-set_other, get_or-set_same}
use Rattle.std.proofs.lemmas.Map.Lookups.{exact_unsigned}
use Rattle.std.specs.Cmp.{eq_by_cmp_equiv}
use Rattle.std.specs.Map.{lookup}
use Rattle.std.specs.BTreeMap.{is_at}
use Rattle.std.specs.FinMap.{FinMap, empty, find, get, get-empty, get-insert, get-from_entries, from_entries, insert, same_map}
use Rattle.sb_pardo.specs.ListedImages.{IsListed, listed_number}
use Rattle.sb_pardo.specs.Tables.{HasKeyImages}
use Rattle.sb_pardo.specs.declared.table.TheConstants.{LISTED_KEYS}
use Rattle.sb_record.specs.declared.key.Key.{Key}
use Rattle.sb_record.specs.declared.key.Key.TheVariants.{Number, Word}
use Rattle.sb_record.specs.Keys.{IsKey, key_cmp}
use Rattle.sb_record.specs.KeyOrder.{key_cmp_total}
use Rattle.sb_record.proofs.KeyOrder.{exact_keys}

-- the image that the entries give to a key
abbrev pub image_in : List (Key × Key) → Key → Option Key
image_in entries key = lookup (is_at (key_cmp key)) entries

find_image : (es : List (Key × Key)) (q : Key) → find key_cmp q es ≡ image_in es q
find_image [] q = refl
find_image (e ∷ es) q = ap (cond (is_at (key_cmp q) e.0) (Some e.1)) (find_image es q)

pub get_image : (es : List (Key × Key)) (q : Key) → get (from_entries {R = key_cmp} es) q ≡ image_in es q
get_image es q = get-from_entries key_cmp_total es q ∙ find_image es q

-- entries that differ at one key make tables that differ there
pub one_set : (es fs : List (Key × Key)) (k v : Key) → ((q : Key) → image_in fs q ≡ cond (is_at (key_cmp k) q) (Some v) (image_in es q)) → from_entries {R = key_cmp} fs ≡ insert (from_entries es) k v
one_set es fs k v h = same_map key_cmp_total exact_keys _ _ (λ q.
    get_image fs q ∙ h q ∙ ap (λ b. cond b (Some v) (image_in es q)) ((eq_by_cmp_equiv key_cmp_total).symm k q)
    ∙ sym (get-insert key_cmp_total (from_entries es) k v q ∙ ap (cond (eq_by_cmp key_cmp q k) (Some v)) (get_image es q)))

pub no_images : HasKeyImages empty
no_images key = subst (λ o. IfSome o IsKey) (sym (get-empty key_cmp key)) tt

pub images_with : (table : FinMap key_cmp Key) (k v : Key) → HasKeyImages table → IsKey v → HasKeyImages (insert table k v)
images_with table k v kept small key =
    subst (λ o. IfSome o IsKey) (sym (get-insert key_cmp_total table k v key))
    (cond_both (eq_by_cmp key_cmp key k) (Some v) (get table key) (λ o. IfSome o IsKey) (λ e. small) (λ e. kept key))

-- a list with nothing in it stands beside the empty table
pub none_listed : IsListed [] empty
none_listed n small = sym (get-empty key_cmp (Number n))

-- an order that counts as equal is
is_equal : (order : Ordering) → is_eq order ≡ true → order ≡ Equal
is_equal Less e = absurd (true≢false (sym e))
is_equal Equal e = refl
is_equal Greater e = absurd (true≢false (sym e))

-- two numbers make two keys
two_keys : (m n : ℕ) → (n ≡ m → ⊥) → eq_by_cmp key_cmp (Number n) (Number m) ≡ false
two_keys m n apart = false_from_ne_true _ (λ e. apart (exact_unsigned n m (is_equal (nat_cmp n m) e)))

-- a number whose image is not in the list is past the small ones
past_small : (m : ℕ) → listed_number (Number m) ≡ None → LISTED_KEYS ≤ m
past_small m none = ltb-false m LISTED_KEYS (false_from_ne_true _ (λ yes. let is : Some m ≡ None = sym (cond-true _ (Some m) None yes) ∙ none in cc))

-- no small number is a key whose image is not in the list
unlisted_apart : (k : Key) (n : ℕ) → n < LISTED_KEYS → listed_number k ≡ None → eq_by_cmp key_cmp (Number n) k ≡ false
unlisted_apart (Number m) n small none = let past : LISTED_KEYS ≤ m = past_small m none in two_keys m n (λ same. absurd (omega arith))
unlisted_apart (Word w) n small none = refl

-- the image of a key that is not in the list leaves the list as it is
pub listed_beside : (listed : List (Option Key)) (table : FinMap key_cmp Key) (k v : Key) → listed_number k ≡ None → IsListed listed table → IsListed listed (insert table k v)
listed_beside listed table k v none kept n small =
    kept n small ∙ sym (get-insert key_cmp_total table k v (Number n) ∙ cond-false _ (Some v) (get table (Number n)) (unlisted_apart k n small none))

-- the image of a small number, in the map and at its place
pub listed_with : (listed : List (Option Key)) (table : FinMap key_cmp Key) (m : ℕ) (v : Key) → m < length listed → IsListed listed table → IsListed (set listed m (Some v)) (insert table (Number m) v)
listed_with listed table m v within kept n small = ⊎_elim
    (λ same. rw same (get_or-set_same listed m (Some v) None within ∙ sym (get-insert key_cmp_total table (Number m) v (Number m) ∙ cond-true _ (Some v) (get table (Number m)) ((eq_by_cmp_equiv key_cmp_total).refl (Number m)))))
    (λ apart. get_or-set_other listed m n (Some v) None apart ∙ kept n small
    ∙ sym (get-insert key_cmp_total table (Number m) v (Number n) ∙ cond-false _ (Some v) (get table (Number n)) (two_keys m n apart)))
    (cases_eq n m)

-- what holds holds on an error
pub on_any : {T E P : Type 0} (r : Result T E) → P → OnErr r P
on_any (Ok x) p = tt
on_any (Err e) p = p
