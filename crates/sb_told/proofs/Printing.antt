-- How far texts are written, one for each element of a list.
use Rattle.std.proofs.Common.{◌≡◌, ℕ, ◌+◌, ◌<◌, ◌≤◌, ◌++◌, List, [], ◌∷◌, length, take, drop, get_or, Option, Result, Ok, Err, sym, ap, subst, ◌∙◌, append_assoc, append-nil}
use Rattle.std.specs.Prelude.{false, flat_map, OnOk}
use Rattle.std.specs.Io.KnownBytes.{Appends, Keeps}
use Rattle.std.proofs.lemmas.List.{take-append-drop, take_more, take_all}
use Rattle.std.proofs.lemmas.List.Concat.{flat_map-append}
use Rattle.sb_feed.specs.outside.Sinks.{AppendsPrefix, SinkCause, SinkState, WritesAll}
use Rattle.sb_feed.proofs.outside.SinkCauses.{calls_then}
use Rattle.std.proofs.KnownBytes.{Appends-trans}
use Rattle.sb_feed.specs.outside.declared.sink.SinkFault.{SinkFault}
use Rattle.sb_feed.proofs.outside.Appending.{appends_kept, prefix_later, prefix_of_more}

-- some text was written, and with what is gathered it is that of the first elements
pub record Printing {X : Type 0} (text : X → List ℕ) (old now : Option (List ℕ)) (gathered : List ℕ) (xs : List X) (done : ℕ) (before after : SinkState) : Type 0 where
  pub written : List ℕ
  pub appends : Appends old now written
  pub whole : written ++ gathered ≡ flat_map text (take done xs)
  pub cause : SinkCause {T = ℕ} before after (Ok 0)

module _ {X : Type 0} (text : X → List ℕ) where
  -- one text more is gathered
  pub printing-more : (old now : Option (List ℕ)) (gathered more : List ℕ) (xs : List X) (done : ℕ) (x : X) (before after : SinkState) → done < length xs → more ≡ text (get_or xs done x)
      → Printing text old now gathered xs done before after → Printing text old now (gathered ++ more) xs (done + 1) before after
  printing-more old now gathered more xs done x before after some is p =
      record {
        written = p.written;
        appends = p.appends;
        whole =
            sym (append_assoc p.written gathered more)
            ∙ (λ i. p.whole i ++ is i)
            ∙ ap (λ l. flat_map text (take done xs) ++ l) (sym (append-nil (text (get_or xs done x))))
            ∙ sym (flat_map-append text (take done xs) (get_or xs done x ∷ []))
            ∙ ap (flat_map text) (sym (take_more xs done x some));
        cause = p.cause;
      }

  -- the front of what is gathered is written
  pub printing-moved : (old now now' : Option (List ℕ)) (gathered gathered' written : List ℕ) (xs : List X) (done : ℕ) (before after later : SinkState) → Printing text old now gathered xs done before after
      → Appends now now' written → gathered ≡ written ++ gathered' → SinkCause {T = ℕ} after later (Ok 0) → Printing text old now' gathered' xs done before later
  printing-moved old now now' gathered gathered' written xs done before after later p appends is moved =
      record {
        written = p.written ++ written;
        appends = Appends-trans old now now' p.written written p.appends appends;
        whole = append_assoc p.written written gathered' ∙ ap (λ l. p.written ++ l) (sym is) ∙ p.whole;
        cause = calls_then before after later 0 (Ok 0) p.cause moved;
      }

  -- a fault leaves a prefix of all texts
  pub printing-fails : (old now now' : Option (List ℕ)) (gathered : List ℕ) (xs : List X) (done : ℕ) (before after : SinkState) → Printing text old now gathered xs done before after
      → AppendsPrefix now now' gathered → AppendsPrefix old now' (flat_map text xs)
  printing-fails old now now' gathered xs done before after p prefix =
      let some = prefix_later old now now' p.written gathered p.appends prefix in
      let whole : (p.written ++ gathered) ++ flat_map text (drop done xs) ≡ flat_map text xs =
      ap (λ l. l ++ flat_map text (drop done xs)) p.whole ∙ sym (flat_map-append text (take done xs) (drop done xs)) ∙ ap (flat_map text) (take-append-drop done xs) in
      subst (λ l. AppendsPrefix old now' l) whole (prefix_of_more old now' (p.written ++ gathered) (flat_map text (drop done xs)) some)

  -- the last of it is written, or a prefix of it at a fault
  pub printing-ends : {T E : Type 0} (old now now' : Option (List ℕ)) (gathered : List ℕ) (xs : List X) (done : ℕ) (before after : SinkState) (r : Result T E) → length xs ≤ done
      → Printing text old now gathered xs done before after → WritesAll now now' gathered r → WritesAll old now' (flat_map text xs) r
  printing-ends old now now' gathered xs done before after (Ok x) all p appends =
      subst (Appends old now') (p.whole ∙ ap (flat_map text) (take_all done xs all)) (Appends-trans old now now' p.written gathered p.appends appends)
  printing-ends old now now' gathered xs done before after (Err e) all p prefix = printing-fails old now now' gathered xs done before after p prefix

-- behind what was written comes all of another text, or a prefix of it
pub written_behind : {T E : Type 0} (a b c : Option (List ℕ)) (x y : List ℕ) (r : Result T E) → Appends a b x → WritesAll b c y r → WritesAll a c (x ++ y) r
written_behind a b c x y (Ok z) h k = Appends-trans a b c x y h k
written_behind a b c x y (Err e) h k = prefix_later a b c x y h k

-- what was written stays, also if it could not be passed on
pub written_kept : {T E : Type 0} (old now now' : Option (List ℕ)) (bytes : List ℕ) (r : Result T E) → Appends old now bytes → Keeps now now' → WritesAll old now' bytes r
written_kept old now now' bytes (Ok x) appends keeps = appends_kept old now now' bytes appends keeps
written_kept old now now' bytes (Err e) appends keeps = record { prefix = bytes; rest = []; whole = sym (append-nil bytes); appends = appends_kept old now now' bytes appends keeps }

-- a sink that was asked at the end has told each fault
pub all_told : {S T : Type 0} (a b c : SinkState) (x : S) (r : Result T SinkFault) → SinkCause a b (Ok x) → SinkCause b c r → OnOk r (c.refuses ≡ false) → OnOk r (c.faults ≡ a.faults)
all_told a b c x (Ok y) h k told = (calls_then a b c x (Ok y) h k).passed told
all_told a b c x (Err e) h k told = tt
