-- The diaries of a hand whose run is done.
use Rattle.std.proofs.Common.{◌≡◌, ℕ, ◌+◌, Bool, true, false, List, [], ◌∷◌, ◌++◌, Some, length, refl, sym, ap, ◌∙◌, length-append, zero, suc, slice_get, map}
use Rattle.std.specs.Option.{option_map}
use Rattle.std.proofs.lemmas.Option.{same_Some, slice_get-map}
use Rattle.std.proofs.lemmas.List.{length-map}
use Rattle.sb_alone.specs.base.records.declared.item.Item.{Item}
use Rattle.sb_alone.specs.base.pipeline.Operators.{operator_of}
use Rattle.sb_alone.specs.base.pipeline.Operators.Operator.{Sink}
use Rattle.sb_alone.specs.base.pipeline.Shapes.{Shape}
use Rattle.sb_alone.specs.base.pipeline.declared.transform.Step.{Step}
use Rattle.sb_alone.specs.hand.Hands.{HandView}
use Rattle.sb_alone.specs.hand.Showing.{Settings, diaries_of, settings_at, settings_for}
use Rattle.sb_alone.specs.declared.run_end.RunEnd.{RunEnd}
use Rattle.sb_alone.specs.declared.run_end.RunEnd.TheVariants as run
use Rattle.sb_alone.specs.RunEnds.{IsDoneHand}
use Rattle.sb_words.specs.declared.options.Options.{Options}
use Rattle.sb_answers.specs.RunSteps.{CanTellAt, kept_at, sizes_from}
use Rattle.sb_answers.specs.Telling.{diaries_of_hand}
use Rattle.sb_answers.specs.Told.{AreDiaries, AreToldIf, node_diaries}

module _ (plan : Shape) (options : Options) where
  -- one node for each transform, and the sink
  nodes_of_done : (items : List Item) (h : HandView) → IsDoneHand plan (sizes_from options) items h → length h.nodes ≡ length plan.steps + 1
  nodes_of_done items h done =
      sym (length-map h.nodes _)
      ∙ ap length done.settings
      ∙ length-append (map (λ s. settings_for options.diary options.pending (operator_of s.kind)) plan.steps) (settings_for options.diary options.pending Sink ∷ [])
      ∙ ap (λ n. n + 1) (length-map plan.steps _)

  done_tells : (items : List Item) (h : HandView) → IsDoneHand plan (sizes_from options) items h → AreDiaries plan options.bundle items (diaries_of_hand h)
  done_tells items h done =
      record {
        lines = diaries_of h.nodes;
        one_each = length-map h.nodes _ ∙ nodes_of_done items h done;
        are = ap (λ (p : Shape). node_diaries p 0 (diaries_of h.nodes)) done.plan_is;
        legal = done.legal;
        settled = done.settled;
        tallies = done.tallies;
      }

  -- they are told if they are kept
  pub told_if : (keep : Bool) (items : List Item) (h : HandView) → IsDoneHand plan (sizes_from options) items h → AreToldIf keep plan options.bundle items (kept_at keep (run.Done h))
  told_if true items h done = done_tells items h done
  told_if false items h done = refl

  -- they are kept if they are asked for
  keeps_at : (steps : List Step) (k : ℕ) (s : Settings) → slice_get (map (λ s. settings_for true options.pending (operator_of s.kind)) steps ++ settings_for true options.pending Sink ∷ []) k ≡ Some s → s.keeps ≡ true
  keeps_at [] zero s is = sym (ap (λ (x : Settings). x.keeps) (same_Some _ s is))
  keeps_at [] (suc k) s is = cc is
  keeps_at (step ∷ steps) zero s is = sym (ap (λ (x : Settings). x.keeps) (same_Some _ s is))
  keeps_at (step ∷ steps) (suc k) s is = keeps_at steps k s is

  pub can_tell_if : (keep : Bool) → options.diary ≡ keep → (items : List Item) (h : HandView) → IsDoneHand plan (sizes_from options) items h → CanTellAt keep (run.Done h)
  can_tell_if false is items h done = tt
  can_tell_if true is items h done =
      record {
        unspent = done.unspent;
        nodes = nodes_of_done items h done ∙ ap (λ (p : Shape). length p.steps + 1) (sym done.plan_is);
        keep = λ k own there.
            keeps_at plan.steps k _
            (ap (λ l. slice_get l k) (sym (done.settings ∙ ap (λ b. settings_at b options.pending plan) is)) ∙ slice_get-map _ h.nodes k ∙ ap (option_map _) there);
      }

-- nothing is told of a run that is not done
pub other_ends : (keep : Bool) (end : RunEnd) → ((hand : HandView) → end ≡ run.Done hand → CanTellAt keep end) → CanTellAt keep end
other_ends false end done = tt
other_ends true (run.Done hand) done = done hand refl
other_ends true (run.Refused refusal) done = tt
other_ends true run.Input done = tt
other_ends true run.Output done = tt
other_ends true (run.Tap place) done = tt
other_ends true run.Memory done = tt
