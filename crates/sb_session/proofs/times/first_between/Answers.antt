use Rattle.std.proofs.Common.{arith, ◌≡◌, ◌≤◌, true, false, refl, sym, ◌∙◌, Option, Some, None}
use Rattle.std.specs.Prelude.{◌&&◌, IsSome}
use Rattle.std.specs.BTreeMap.{get}
use Rattle.std.specs.Ordering.{is_lt}
use Rattle.std.proofs.lemmas.Bool.{and_parts, ltb-true, lt-ltb}
use Rattle.std.proofs.lemmas.Map.Views.{tells_apart}
use Rattle.sb_windowed.specs.records.Keys.{same_key}
use Rattle.sb_windowed.proofs.records.KeyOrder.{exact_keys}
use Rattle.sb_windowed.proofs.SessionEnds.{is_same_key}
use Rattle.sb_session.specs.declared.keyed_time.KeyedTime.{KeyedTime}
use Rattle.sb_session.specs.Kept.{keyed_time_cmp}
use Rattle.sb_session.proofs.KeyedTimes.{not_lt, not_before, between}
use Rattle.sb_session.proofs.times.first_between.Goals.{in_default-via-in-Some+else-is_below, in_default-via-in_default}
use Rattle.sb_session.proofs.times.first_between.Goals as goal

none_from : {X : Type 0} (o : Option X) → (IsSome o → ⊥) → o ≡ None
none_from (Some x) never = absurd (never refl)
none_from None _ = refl

pub returns-in-Some-clause-some : goal.returns-in-Some-clause-some
returns-in-Some-clause-some c =
    let at = c.in-Some.at in
    let session = c.args.session.now in
    let parts = and_parts (same_key at.key session.key) _ (sym c.is_below.ensures ∙ c.if-is_below.true) in
    let key : at.key ≡ session.key = tells_apart exact_keys at.key session.key parts.0 in
    (key, not_before at (record { key = session.key; time = c.args.from }) c.in-Some.ensures.from key, ltb-true at.time session.end parts.1, c.in-Some.ensures.some)

pub returns-in_default-clause-none : goal.returns-in_default-clause-none
returns-in_default-clause-none c = elim c.in_default.branch [
  | in_default-via-in-Some+else-is_below w ↦ λ u low high.
      let q : KeyedTime = record { key = c.args.session.now.key; time = u } in
      let first : KeyedTime = record { key = c.args.session.now.key; time = c.args.from } in
      none_from (get keyed_time_cmp c.args.times.now q) (λ some.
      let after : is_lt (keyed_time_cmp q w.in-Some.at) ≡ false = w.in-Some.ensures.least q some (not_lt q first refl low) in
      let key : w.in-Some.at.key ≡ q.key = between first w.in-Some.at q w.in-Some.ensures.from after refl in
      let time : w.in-Some.at.time ≤ u = not_before q w.in-Some.at after (sym key) in
      let k : true ≡ false = sym (λ i. is_same_key w.in-Some.at.key c.args.session.now.key key i && lt-ltb w.in-Some.at.time c.args.session.now.end (omega (arith, time, high)) i) ∙ sym w.is_below.ensures ∙ w.if-is_below.false in cc)
  | in_default-via-in_default w ↦ λ u low high.
      let q : KeyedTime = record { key = c.args.session.now.key; time = u } in
      let first : KeyedTime = record { key = c.args.session.now.key; time = c.args.from } in
      none_from (get keyed_time_cmp c.args.times.now q) (λ some.
      let k : true ≡ false = sym (w.in_default.ensures.none q some) ∙ not_lt q first refl low in cc)
]
