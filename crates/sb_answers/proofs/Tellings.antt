-- How far the diaries of all nodes are written.
use Rattle.std.proofs.Common.{◌≡◌, ℕ, ◌+◌, ◌<◌, ◌≤◌, ◌++◌, List, [], ◌∷◌, length, drop, Option, Some, Ok, refl, sym, ap, subst, ◌∙◌, append_assoc, append-nil, add-one, zero, suc, slice_get}
use Rattle.std.specs.List.{flat_map}
use Rattle.std.specs.Prelude.{map}
use Rattle.std.specs.Io.KnownBytes.{Appends}
use Rattle.std.specs.Option.{option_map}
use Rattle.std.proofs.KnownBytes.{Appends-nil, Appends-trans}
use Rattle.std.proofs.lemmas.List.{drop_all}
use Rattle.std.proofs.Math.Seq.{drop-cons}
use Rattle.std.proofs.lemmas.List.Concat.{flat_map-append}
use Rattle.std.proofs.lemmas.Option.{same_Some}
use Rattle.sb_alone.specs.diary.Diaries.{Written}
use Rattle.sb_alone.specs.node.declared.state.NodeState.{NodeState}
use Rattle.sb_alone.specs.hand.Showing.{diaries_of}
use Rattle.sb_alone.proofs.outside.Appending.{prefix_later, prefix_of_more}
use Rattle.sb_alone.proofs.outside.SinkCauses.{calls_then, no_call}
use Rattle.sb_alone.specs.outside.Sinks.{AppendsPrefix, SinkCause, SinkState}
use Rattle.sb_alone.specs.diary.declared.event.DiaryEvent.{DiaryEvent}
use Rattle.sb_alone.specs.diary.declared.text.DiaryLine.{DiaryLine}
use Rattle.sb_alone.specs.diary.declared.text.DiaryLine.TheVariants.{Event}
use Rattle.sb_alone.specs.diary.Texts.{lines_from, text_of}
use Rattle.sb_alone.specs.base.pipeline.Operators.{lanes_of, operator_at}
use Rattle.sb_alone.specs.base.pipeline.Shapes.{Shape}
use Rattle.sb_alone.specs.tally.Written.{diary_at}
use Rattle.sb_answers.specs.Told.{node_diaries}
use Rattle.sb_answers.specs.Telling.{event_line, head_line}

-- a line with its line end
abbrev line_of : DiaryLine → List ℕ
line_of line = text_of line ++ 10 ∷ []

-- the first of the lists that are left
first_dropped : (lines : List (List DiaryEvent)) (node : ℕ) → node < length lines → drop node lines ≡ diary_at lines node ∷ drop (node + 1) lines
first_dropped lines node within = rw add-one (drop-cons lines node [] within)

-- the text of the nodes from this one on
abbrev pub text_from : Shape → ℕ → List (List DiaryEvent) → List ℕ
text_from plan node lines = flat_map line_of (lines_from node (node_diaries plan node lines))

-- and that of one node
abbrev pub text_at : Shape → ℕ → List DiaryEvent → List ℕ
text_at plan node events = head_line node (lanes_of (operator_at (slice_get plan.steps node))) ++ flat_map event_line events

events_text : (events : List DiaryEvent) → flat_map line_of (map Event events) ≡ flat_map event_line events
events_text [] = refl
events_text (e ∷ events) = ap (λ l. line_of (Event e) ++ l) (events_text events)

-- the text of the first of them is that of its head and its events
pub text_first : (plan : Shape) (node : ℕ) (events : List DiaryEvent) (lines : List (List DiaryEvent)) → text_from plan node (events ∷ lines) ≡ text_at plan node events ++ text_from plan (node + 1) lines
text_first plan node events lines =
    let head = head_line node (lanes_of (operator_at (slice_get plan.steps node))) in
    let rest = lines_from (node + 1) (node_diaries plan (node + 1) lines) in
    ap (λ l. head ++ l) (flat_map-append line_of (map Event events) rest ∙ ap (λ l. l ++ flat_map line_of rest) (events_text events))
    ∙ sym (append_assoc head (flat_map event_line events) (flat_map line_of rest))

-- the lines of a node's diary
pub events_at : (nodes : List NodeState) (k : ℕ) (d : Written) → option_map (λ n. n.diary) (slice_get nodes k) ≡ Some d → diary_at (diaries_of nodes) k ≡ d.events
events_at [] k d e = cc e
events_at (n ∷ nodes) zero d e = ap (λ (w : Written). w.events) (same_Some _ d e)
events_at (n ∷ nodes) (suc k) d e = events_at nodes k d e

-- some text was written, and with that of the nodes from this one on it is that of all nodes
pub record Telling (plan : Shape) (lines : List (List DiaryEvent)) (old now : Option (List ℕ)) (node : ℕ) (before after : SinkState) : Type 0 where
  pub written : List ℕ
  pub appends : Appends old now written
  pub whole : written ++ text_from plan node (drop node lines) ≡ text_from plan 0 lines
  pub cause : SinkCause {T = ℕ} before after (Ok 0)

module _ (plan : Shape) (lines : List (List DiaryEvent)) (old now : Option (List ℕ)) where
  pub telling-none : (s : SinkState) → Telling plan lines old old 0 s s
  telling-none s = record { written = []; appends = Appends-nil old; whole = refl; cause = no_call s }

  -- the text of the nodes so far, of this one, and of those behind it
  with_node : (node : ℕ) (before after : SinkState) → node < length lines → (t : Telling plan lines old now node before after)
      → (t.written ++ text_at plan node (diary_at lines node)) ++ text_from plan (node + 1) (drop (node + 1) lines) ≡ text_from plan 0 lines
  with_node node before after within t =
      append_assoc t.written (text_at plan node (diary_at lines node)) (text_from plan (node + 1) (drop (node + 1) lines))
      ∙ ap (λ l. t.written ++ l) (sym (text_first plan node (diary_at lines node) (drop (node + 1) lines)))
      ∙ ap (λ l. t.written ++ text_from plan node l) (sym (first_dropped lines node within))
      ∙ t.whole

  -- the text of one node more was written
  pub telling-more : (now' : Option (List ℕ)) (node : ℕ) (before after later : SinkState) → node < length lines → Telling plan lines old now node before after
      → Appends now now' (text_at plan node (diary_at lines node)) → SinkCause {T = ℕ} after later (Ok 0) → Telling plan lines old now' (node + 1) before later
  telling-more now' node before after later within t appends cause =
      record {
        written = t.written ++ text_at plan node (diary_at lines node);
        appends = Appends-trans old now now' t.written (text_at plan node (diary_at lines node)) t.appends appends;
        whole = with_node node before after within t;
        cause = calls_then before after later 0 (Ok 0) t.cause cause;
      }

  -- a fault leaves a prefix of the text of all nodes
  pub telling-fails : (now' : Option (List ℕ)) (node : ℕ) (before after : SinkState) → node < length lines → Telling plan lines old now node before after
      → AppendsPrefix now now' (text_at plan node (diary_at lines node)) → AppendsPrefix old now' (text_from plan 0 lines)
  telling-fails now' node before after within t prefix =
      subst (AppendsPrefix old now') (with_node node before after within t)
      (prefix_of_more old now' (t.written ++ text_at plan node (diary_at lines node)) (text_from plan (node + 1) (drop (node + 1) lines))
      (prefix_later old now now' t.written (text_at plan node (diary_at lines node)) t.appends prefix))

  -- all nodes were written
  pub telling-ends : (node : ℕ) (before after : SinkState) → length lines ≤ node → Telling plan lines old now node before after → Appends old now (text_from plan 0 lines)
  telling-ends node before after all t =
      subst (Appends old now) (sym (append-nil t.written) ∙ ap (λ l. t.written ++ text_from plan node l) (sym (drop_all node lines all)) ∙ t.whole) t.appends
