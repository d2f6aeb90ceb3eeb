use Rattle.std.proofs.Common.{◌≡◌, false, true, Some, refl, sym, ap, ◌∙◌}
use Rattle.std.specs.List.{remove}
use Rattle.std.specs.Option.{option_map}
use Rattle.sb_core.specs.declared.held.Held.TheVariants.{Work, Close}
use Rattle.sb_core.specs.Moments.{is_close_of}
use Rattle.sb_machine.proofs.FromHeld.{first-in, close-of_lane}
use Rattle.sb_machine.proofs.hold.close_of_at.Goals as goal

pub returns-in-Close-clause-found : goal.returns-in-Close-clause-found
returns-in-Close-clause-found c =
    let hs = c.args.held.now in
    let k = c.args.of_node in
    let l = c.args.of_lane in
    let i = c.in_ok-place.place in
    let h = c.in-Close in
    let first = first-in (is_close_of k l) hs hs hs i c.index-held-place.result (Close h.node h.lane h.epoch h.serial h.floor h.mark h.rows h.passed) refl refl c.in_ok-place.ensures c.index-held-place.is h.is in
    let found = close-of_lane hs (remove hs i) k l h.node h.lane h.epoch h.serial h.floor h.mark h.rows h.passed first
    ∙ (λ z. Some (Close k l h.epoch h.serial h.floor h.mark (sym c.as_slice.ensures z) h.passed, remove hs i)) in
    record {
      within = c.in_ok-place.ensures.1;
      there = c.in_ok-place.ensures.2 ∙ ap (option_map (λ q. q.0)) (sym c.in_ok-place.ensures.3 ∙ found);
      found = found;
    }

pub returns-in-Work-clause-none : goal.returns-in-Work-clause-none
returns-in-Work-clause-none c =
    let hs = c.args.held.now in
    let h = c.in-Work in
    let no : false ≡ true = (first-in (is_close_of c.args.of_node c.args.of_lane) hs hs hs c.in_ok-place.place c.index-held-place.result (Work h.node h.lane h.epoch h.floor h.number h.records h.delivered) refl refl c.in_ok-place.ensures c.index-held-place.is h.is).1 in
    cc
