-- Events that feed nothing.
use Rattle.std.proofs.Common.{◌≡◌, ℕ, suc, zero, true, false, List, [], ◌∷◌, ◌++◌, refl, ◌∙◌}
use Rattle.sb_shown.specs.base.records.declared.item.Record.{Record}
use Rattle.sb_shown.specs.base.records.declared.item.Stream.{Stream}
use Rattle.sb_shown.specs.core.declared.event.Event.{Event}
use Rattle.sb_shown.specs.core.declared.event.Event.TheVariants.{Take, Deliver, Finish, Begin, Pass, End}
use Rattle.sb_shown.specs.core.Laws.{records_fed_after}
use Rattle.sb_shown.specs.tally.Keeping.{feed_after}
use Rattle.sb_shown.specs.tally.Tally.{Feed}
use Rattle.sb_hand.specs.HandLaws.{FeedNothing, BundlesFeedNothing, ClosingsFeedNothing}
use Rattle.sb_hand.specs.Runs.{deliveries}
use Rattle.sb_hand.specs.Runs.IsClosingRun.{OfTransform, OfSink}

-- one event that brings nothing
abbrev Brings : Event → Type 0
Brings e = ((fed : Stream → List Record) → records_fed_after e fed ≡ fed) × ((feed : Feed) → feed_after e feed ≡ feed)

none : FeedNothing []
none = record { fed = λ fed. refl; feed = λ feed. refl }

after : (e : Event) (es : List Event) → Brings e → FeedNothing es → FeedNothing (e ∷ es)
after e es b f = record { fed = λ fed. f.fed (records_fed_after e fed) ∙ b.0 fed; feed = λ feed. f.feed (feed_after e feed) ∙ b.1 feed }

take : (k l n : ℕ) → Brings (Take k l n)
take k l n = (λ fed. λ i s. fed s, λ feed. refl)

deliver : (k l n : ℕ) → Brings (Deliver k l n)
deliver k l n = (λ fed. λ i s. fed s, λ feed. refl)

finish : (k l n : ℕ) → Brings (Finish k l n)
finish k l n = (λ fed. λ i s. fed s, λ feed. refl)

begin : (k l : ℕ) → Brings (Begin k l)
begin k l = (λ fed. λ i s. fed s, λ feed. refl)

pass : (k : ℕ) → Brings (Pass k)
pass k = (λ fed. λ i s. fed s, λ feed. refl)

end : (k : ℕ) → Brings (End k)
end k = (λ fed. λ i s. fed s, λ feed. refl)

delivered : (k l count : ℕ) (es : List Event) → FeedNothing es → FeedNothing (deliveries k l count ++ es)
delivered k l zero es f = f
delivered k l (suc count) es f = after (Deliver k l 0) (deliveries k l count ++ es) (deliver k l 0) (delivered k l count es f)

pub bundles-feed_nothing : BundlesFeedNothing
bundles-feed_nothing k l number true = after (Take k l number) (Deliver k l number ∷ Finish k l number ∷ []) (take k l number)
    (after (Deliver k l number) (Finish k l number ∷ []) (deliver k l number) (after (Finish k l number) [] (finish k l number) none))
bundles-feed_nothing k l number false = after (Take k l number) (Finish k l number ∷ []) (take k l number) (after (Finish k l number) [] (finish k l number) none)

pub closings-feed_nothing : ClosingsFeedNothing
closings-feed_nothing plan k l _ (OfTransform count below) =
    after (Begin k l) (deliveries k l count ++ Pass k ∷ End k ∷ []) (begin k l)
    (delivered k l count (Pass k ∷ End k ∷ []) (after (Pass k) (End k ∷ []) (pass k) (after (End k) [] (end k) none)))
closings-feed_nothing plan k l _ (OfSink sink) = after (Begin k l) (End k ∷ []) (begin k l) (after (End k) [] (end k) none)
