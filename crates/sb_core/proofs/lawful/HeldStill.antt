-- What is held is as it was: where no lane changes, and of a Close where only its rows do.
use Rattle.std.proofs.Common.{◌≡◌, ℕ, ◌+◌, ◌<◌, Bool, true, false, List, [], refl}
use Rattle.std.specs.List.{AllByRecursion}
use Rattle.sb_containers.specs.base.records.declared.item.Record.{Record}
use Rattle.sb_containers.specs.base.window.declared.windows.TheConstants.{MAX_SIZE}
use Rattle.sb_containers.specs.base.pipeline.Shapes.{Shape}
use Rattle.sb_core.specs.declared.moment.Moment.{Moment}
use Rattle.sb_core.specs.declared.held.Held.{Held}
use Rattle.sb_core.specs.declared.held.Held.TheVariants.{Work, Close}
use Rattle.sb_core.specs.Bounds.{bound_at}
use Rattle.sb_containers.specs.LaneOrder.{IsWithin}
use Rattle.sb_core.specs.Holdings.{IsClosing, IsHeld}

-- it does not see what else is held, nor the rows
pub beside : (plan : Shape) (m : Moment) (held : List Held) (rows : List Record) (h : Held) → IsHeld plan m h → IsHeld plan (record m { held = held; rows = rows }) h
beside plan m held rows (Work k l epoch floor number records delivered) h =
    record { lane = h.lane; there = h.there; cont = h.cont; of_epoch = h.of_epoch; floor_is = h.floor_is; is_out = h.is_out; times = h.times; only_pardo = h.only_pardo }
beside plan m held others (Close k l epoch serial floor mark rows passed) h =
    record {
      lane = h.lane;
      there = h.there;
      closing = h.closing;
      epoch_is = h.epoch_is;
      mark_is = h.mark_is;
      rises = h.rises;
      serial_is = h.serial_is;
      times = h.times;
      before_mark = h.before_mark;
      no_rows = h.no_rows;
      under = h.under;
      next_under = h.next_under;
    }

-- a Close that has fewer rows, or passes its mark
pub goes-on : {plan : Shape} {m : Moment} {k l epoch serial floor mark : ℕ} {rows : List Record} → IsClosing plan m k l epoch serial floor mark rows false → (left : List Record) (passed : Bool)
    → IsWithin floor (bound_at plan k + MAX_SIZE) left → AllByRecursion (λ r. r.time < mark) left → (passed ≡ true → left ≡ []) → IsClosing plan m k l epoch serial floor mark left passed
goes-on closing left passed times before_mark no_rows =
    record {
      lane = closing.lane;
      there = closing.there;
      closing = closing.closing;
      epoch_is = closing.epoch_is;
      mark_is = closing.mark_is;
      rises = closing.rises;
      serial_is = closing.serial_is;
      times = times;
      before_mark = before_mark;
      no_rows = no_rows;
      under = λ _. closing.under refl;
      next_under = λ _. closing.next_under refl;
    }
