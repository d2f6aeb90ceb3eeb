-- A trail may cross threads if its elements may. It is in a cycle of types, so rattle does not say so by itself.
use denote.RattleType.{RattleType}
use denote.Param.Send.{IsSend, IsSync, sendable}
use denote.Model.Local.{Parts, rows}
use denote.Model.Marks.{tied_send, tied_sync}
use Rattle.std.proofs.Crossing.{crosses}
use Rattle.sb_record.specs.contracts.trail.Trail as trail
use Rattle.sb_record.specs.contracts.trail.Trail.TheKnot as knot
use Rattle.sb_record.specs.declared.trail.Trail.TheDeep as deep

-- it may be sent
module _ (T : RattleType) (s : IsSend T) where
  sent-link : (p : Parts (knot.frame T)) → IsSend (knot.at-Link T p)
  sent-link p = search (sendable, crosses) depth 40

  sent-view : (p : Parts (knot.frame T)) → IsSend (knot.view-Trail T p)
  sent-view p = search (sendable, crosses, sent-link) depth 40

  sent-keeps : (p : Parts (knot.frame T)) → ((j : deep.the_members) → IsSend (rows (knot.frame T) p j))
      → (i : deep.the_members) → IsSend (rows (knot.frame T) (knot.step T p) i)
  sent-keeps p all deep.member-Trail =
      record { owned = λ d vs. (sent-view p).owned d vs; leaving = λ k d w. tt }

  pub Trail-send : IsSend (trail.the_row T)
  Trail-send = tied_send (knot.frame T) (knot.step T) (knot.sizes T) sent-keeps deep.member-Trail

-- it may be shared
module _ (T : RattleType) (s : IsSync T) where
  shared-link : (p : Parts (knot.frame T)) → IsSync (knot.at-Link T p)
  shared-link p = search (sendable, crosses) depth 40

  shared-view : (p : Parts (knot.frame T)) → IsSync (knot.view-Trail T p)
  shared-view p = search (sendable, crosses, shared-link) depth 40

  shared-keeps : (p : Parts (knot.frame T)) → ((j : deep.the_members) → IsSync (rows (knot.frame T) p j))
      → (i : deep.the_members) → IsSync (rows (knot.frame T) (knot.step T p) i)
  shared-keeps p all deep.member-Trail = record { shared = λ x b o. (shared-view p).shared x b o }

  pub Trail-sync : IsSync (trail.the_row T)
  Trail-sync = tied_sync (knot.frame T) (knot.step T) (knot.sizes T) shared-keeps deep.member-Trail
