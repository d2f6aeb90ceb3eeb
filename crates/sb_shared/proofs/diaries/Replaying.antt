-- What a leaving adds to what its node's log makes of the node's part and diary.
use Rattle.std.proofs.Common.{◌≡◌, ℕ, ◌<◌, Bool, true, false, cond, List, [], ◌∷◌, ◌++◌, length, set, sym, refl, ap, ◌∙◌}
use Rattle.std.proofs.Common.{append-nil, Option, Some}
use Rattle.std.proofs.lemmas.Option.{same_Some}
use Rattle.sb_shown.specs.base.records.Reading.{◌>>=◌}
use Rattle.sb_shown.proofs.base.records.Numbers.{bind_some}
use Rattle.sb_shown.specs.core.declared.moment.Node.{Node}
use Rattle.sb_shown.specs.core.Parts.{Part}
use Rattle.sb_shown.specs.diary.declared.event.DiaryEvent.{DiaryEvent}
use Rattle.sb_turn.specs.Turning.{log_of}
use Rattle.sb_turn.proofs.Logs.{grown_here}
use Rattle.sb_shared.specs.declared.telling.Change.{Change}
use Rattle.sb_shared.specs.declared.telling.Change.TheVariants.{Arrive, Seal, Take, Deliver, Finish, Begin, Rows, Pass, End}
use Rattle.sb_shared.specs.declared.telling.Change.TheVariants.{Idle, NotYet, Full, Drain, Spent, Nothing}
use Rattle.sb_shared.specs.declared.telling.Hands.{Hands}
use Rattle.sb_shared.specs.declared.telling.Setting.{Setting}
use Rattle.sb_shared.specs.Doings.{Doing, Quiet, Fresh, Of, Story, doing_of, is_done, is_event, lines_by, part_by, replay}
use Rattle.sb_shared.specs.Leavings.{May}

-- whether a change is an event does not depend on the node that is left
pub same_doing : (k : ℕ) (c : Change) → is_done (doing_of k c) ≡ is_event c
same_doing k (Arrive stream records) = refl
same_doing k (Seal stream mark) = refl
same_doing k (Take c link) = refl
same_doing k (Deliver c place) = refl
same_doing k (Finish c delivered) = refl
same_doing k (Begin c passed) = refl
same_doing k (Rows c first most place) = refl
same_doing k (Pass c) = refl
same_doing k (End c) = refl
same_doing k Idle = refl
same_doing k (NotYet why) = refl
same_doing k (Full lane) = refl
same_doing k (Drain rows) = refl
same_doing k Spent = refl
same_doing k Nothing = refl

module _ (a : Setting) where
  -- the part that a leaving makes
  pub does_part : (k : ℕ) (w w' : Hands) (p : Node) (d : Doing) (q : Part) → May a k w w' p d q → part_by a d p ≡ Some q
  does_part k w w' p Quiet q may = ap Some (sym may.0)
  does_part k w w' p (Fresh e) q may = may.2
  does_part k w w' p (Of e h) q may = may.3

  -- a leaving that is no event leaves the part as it is
  quiet_part : (k : ℕ) (w w' : Hands) (p : Node) (d : Doing) (q : Part) → is_done d ≡ false → May a k w w' p d q → q.node ≡ p
  quiet_part k w w' p Quiet q e may = ap (λ (q : Part). q.node) may.0
  quiet_part k w w' p (Fresh e) q f may = absurd (cc f)
  quiet_part k w w' p (Of e h) q f may = absurd (cc f)

  -- a leaving that is no event writes no line
  pub quiet_lines : (d : Doing) (p : Node) → is_done d ≡ false → lines_by a d p ≡ []
  quiet_lines Quiet p e = refl
  quiet_lines (Fresh e) p f = absurd (cc f)
  quiet_lines (Of e h) p f = absurd (cc f)

  -- what one leaving more makes of a story
  abbrev pub next : ℕ → Change → Story → Part → Story
  next k c s q = record { node = q.node; lines = s.lines ++ lines_by a (doing_of k c) s.node }

  -- one leaving more, at the end
  replay_more : (k : ℕ) (l : List Change) (c : Change) (s t : Story) (q : Part) → replay a k l s ≡ Some t → part_by a (doing_of k c) t.node ≡ Some q
      → replay a k (l ++ c ∷ []) s ≡ Some (next k c t q)
  replay_more k [] c s t q e f =
      ap (λ (u : Story). part_by a (doing_of k c) u.node >>= λ p. Some (next k c u p)) (same_Some s t e)
      ∙ ap (λ (o : Option Part). o >>= λ p. Some (next k c t p)) f
  replay_more k (d ∷ l) c s t q e f =
      let b = bind_some (part_by a (doing_of k d) s.node) (λ p. replay a k l (next k d s p)) t e in
      ap (λ (o : Option Part). o >>= λ p. replay a k (l ++ c ∷ []) (next k d s p)) b.1
      ∙ replay_more k l c (next k d s b.0) t q b.2 f

  -- the story of a node once it is left
  pub replays : (k : ℕ) (w w' : Hands) (s : Story) (p : Node) (lines : List DiaryEvent) (c : Change) (q : Part) (logs : List (List Change)) → k < length logs
      → replay a k (log_of logs k) s ≡ Some (record { node = p; lines = lines }) → May a k w w' p (doing_of k c) q
      → (b : Bool) → is_event c ≡ b
      → replay a k (log_of (cond b (set logs k (log_of logs k ++ c ∷ [])) logs) k) s ≡ Some (record { node = q.node; lines = lines ++ lines_by a (doing_of k c) p })
  replays k w w' s p lines c q logs near e may true is =
      ap (λ l. replay a k l s) (grown_here k c logs near true)
      ∙ replay_more k (log_of logs k) c s (record { node = p; lines = lines }) q e (does_part k w w' p (doing_of k c) q may)
  replays k w w' s p lines c q logs near e may false is =
      let quiet = same_doing k c ∙ is in
      e ∙ (λ i. Some (record {
        node = sym (quiet_part k w w' p (doing_of k c) q quiet may) i;
        lines = (sym (append-nil lines) ∙ ap (λ l. lines ++ l) (sym (quiet_lines (doing_of k c) p quiet))) i;
      }))
