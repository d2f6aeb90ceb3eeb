use Rattle.std.proofs.Common.{rules, ◌≡◌, [], ◌∷◌, None, Some, inr, sym, ap, refl, subst, ◌∙◌, false}
use Rattle.sb_shared.specs.turn.declared.turns.Entry.TheVariants as entry
use Rattle.sb_shared.specs.turn.Turning.{looks_from}
use Rattle.sb_hand.specs.work.declared.claim.Claim.{Claim}
use Rattle.sb_shared.specs.declared.telling.Change.TheVariants as change
use Rattle.sb_cascade.specs.Calls.{IsSame}
use Rattle.sb_shared.specs.Doings.{work_of}
use Rattle.sb_shared.specs.Found.{IsClaim}
use Rattle.sb_cascade.specs.Shelving.{EndsWith}
use Rattle.sb_cascade.proofs.leavings.Handing.{empty-still, ends-none, ends-then, keeps-none, left-idle, left-take, same-still, same-then}
use Rattle.sb_cascade.proofs.cascade.Cascade.fill.Goals as goal

pub loop-init : goal.loop-init
loop-init g c =
    let p = c.args.pass.now in
    let none : p.kept ≡ None = search rules in
    let empty = keeps-none p c.requires.pass.1 none in
    ((c.requires.pass.0, same-still p), empty, empty, ends-none p)

pub take-requires-clause-pass : goal.take-requires-clause-pass
take-requires-clause-pass g c = let inv = c.loop.invariant in (inv.0.0, inv.1)

pub returns-in_default-clause-pass : goal.returns-in_default-clause-pass
returns-in_default-clause-pass g c =
    let inv = c.loop.invariant in
    (c.take.ensures.pass.0, same-then c.args.pass.now c.loop.pass c.take.new.pass inv.0.1 c.take.ensures.pass.1)

pub returns-in_default-clause-no : goal.returns-in_default-clause-no
returns-in_default-clause-no g c is_false =
    let inv = c.loop.invariant in
    let q = c.loop.pass in
    let r = c.take.new.pass in
    let none = c.in_default.ensures.none in
    let idle = left-idle q r c.args.node none.1 in (
      empty-still q r none.0 inv.1,
      (idle.0, ends-then c.args.pass.now q r (entry.Left c.args.node idle.0 change.Idle ∷ []) inv.3 idle.1),
    )

pub returns-in-Some-lay-clause-pass : goal.returns-in-Some-lay-clause-pass
returns-in-Some-lay-clause-pass g c =
    let inv = c.loop.invariant in
    let p = c.args.pass.now in
    let r = c.take.new.pass in
    let s = c.lay.new.pass in
    let laid = c.in-Some-lay.ensures.laid in
    let ready = c.lay.ensures.pass.0 in
    let same : IsSame p s = same-then p r s (same-then p c.loop.pass r inv.0.1 c.take.ensures.pass.1) c.lay.ensures.pass.1 in (
      record {
        of = ready.of;
        free = ready.free;
        knows = record {
          link = ready.knows.link;
          delivered = ready.knows.delivered;
          kept = (
            subst (IsClaim c.args.self.now.setting) (sym laid.0) c.in-Some-take.ensures.some.1,
            laid.1.0 ∙ ap (λ (v : Claim). Some (work_of v false)) (sym laid.0),
          );
        };
      },
      record { table = same.table; id = same.id; feed = same.feed; out = same.out },
    )

pub returns-in-Some-lay-clause-yes : goal.returns-in-Some-lay-clause-yes
returns-in-Some-lay-clause-yes g c is_true =
    let inv = c.loop.invariant in
    let p = c.args.pass.now in
    let q = c.loop.pass in
    let r = c.take.new.pass in
    let claim = c.in-Some-take.claim in
    let look = c.in-Some-lay.ensures.laid.2 in
    let taken : EndsWith [] q r = left-take q r c.args.node claim c.in-Some-take.ensures.some.3 in (
      c.in-Some-lay.claim,
      refl,
      inr (inv.2.kept, ap (λ (v : Claim). v.node) c.in-Some-lay.ensures.laid.0 ∙ c.in-Some-take.ensures.some.0, (look.0, look.1, look.2, ends-then p r c.lay.new.pass (looks_from 0 look.0) (ends-then p q r [] inv.3 taken) look.3)),
    )

pub loop-preserved : goal.loop-preserved
loop-preserved g c =
    let inv = c.loop.invariant in
    let p = c.args.pass.now in
    let q = c.loop.pass in
    let r = c.take.new.pass in
    let s = c.lay.new.pass in
    let laid = c.in_default-lay.ensures.laid in
    let taken : EndsWith [] q r = left-take q r c.args.node c.in-Some-take.claim c.in-Some-take.ensures.some.3 in (
      (c.lay.ensures.pass.0, same-then p r s (same-then p q r inv.0.1 c.take.ensures.pass.1) c.lay.ensures.pass.1),
      laid.0,
      inv.2,
      ends-then p r s [] (ends-then p q r [] inv.3 taken) laid.1,
    )
