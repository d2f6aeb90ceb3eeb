use Rattle.std.proofs.Common.{◌≡◌, false, true, Some, refl, sym, ap, ◌∙◌}
use Rattle.std.specs.List.{remove}
use Rattle.std.specs.Option.{option_map}
use Rattle.sb_core.specs.declared.held.Held.TheVariants.{Work, Close}
use Rattle.sb_core.specs.Moments.{is_work}
use Rattle.sb_machine.proofs.FromHeld.{first-in, work-of}
use Rattle.sb_machine.proofs.hold.work_at.Goals as goal

pub returns-in-Work-clause-found : goal.returns-in-Work-clause-found
returns-in-Work-clause-found c =
    let hs = c.args.held.now in
    let k = c.args.of_node in
    let l = c.args.of_lane in
    let n = c.args.of_number in
    let i = c.in_ok-place.place in
    let h = c.in-Work in
    let first = first-in (is_work k l n) hs hs hs i c.index-held-place.result (Work h.node h.lane h.epoch h.floor h.number h.records h.delivered) refl refl c.in_ok-place.ensures c.index-held-place.is h.is in
    let found = work-of hs (remove hs i) k l n h.node h.lane h.number h.epoch h.floor h.records h.delivered first
    ∙ (λ z. Some (Work k l h.epoch h.floor n (sym c.as_slice.ensures z) h.delivered, remove hs i)) in
    record {
      within = c.in_ok-place.ensures.1;
      there = c.in_ok-place.ensures.2 ∙ ap (option_map (λ q. q.0)) (sym c.in_ok-place.ensures.3 ∙ found);
      found = found;
    }

pub returns-in-Close-clause-none : goal.returns-in-Close-clause-none
returns-in-Close-clause-none c =
    let hs = c.args.held.now in
    let p = is_work c.args.of_node c.args.of_lane c.args.of_number in
    let h = c.in-Close in
    let no : false ≡ true = (first-in p hs hs hs c.in_ok-place.place c.index-held-place.result (Close h.node h.lane h.epoch h.serial h.floor h.mark h.rows h.passed) refl refl c.in_ok-place.ensures c.index-held-place.is h.is).1 in
    cc
