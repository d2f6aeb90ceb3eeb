-- A stop is the last of what a file feeds.
use Rattle.std.proofs.Common.{◌≡◌, true, false, ◌||◌, List, [], ◌∷◌, ◌++◌, length, refl, sym, ap, ◌∙◌, append-nil, eqb-true}
use mathlib.Core.List.{IsPrefix}
use Rattle.std.specs.Prelude.{flat_map}
use Rattle.sb_feed.specs.base.records.declared.item.Item.{Item}
use Rattle.sb_feed.specs.base.records.declared.item.Item.TheVariants as item
use Rattle.sb_feed.specs.base.records.Inputs.{Accepted}
use Rattle.sb_feeds.specs.declared.fed.Fed.{Fed}
use Rattle.sb_feeds.specs.declared.fed.Fed.TheVariants as fed
use Rattle.sb_feeds.specs.Fed.{ends_with_stop, values_of_item, values_of_accepted, has_stop, is_stop, stop_from}

-- items are no stops
pub items_have_no_stop : (items : List Item) → has_stop (flat_map values_of_item items) ≡ false
items_have_no_stop [] = refl
items_have_no_stop (item.Rec s r ∷ items) = items_have_no_stop items
items_have_no_stop (item.Mark s t ∷ items) = items_have_no_stop items
items_have_no_stop (item.Skip ∷ items) = items_have_no_stop items
items_have_no_stop (item.Late n t m ∷ items) = items_have_no_stop items

-- behind values without a stop, the next one alone says whether one is among them
pub stop_last : (values : List Fed) (next : Fed) → has_stop values ≡ false → has_stop (values ++ next ∷ []) ≡ is_stop next
stop_last [] (fed.Item i) none = refl
stop_last [] (fed.Stop s) none = refl
stop_last (fed.Item i ∷ values) next none = stop_last values next none
stop_last (fed.Stop s ∷ values) next none = cc none

-- what is fed of accepted lines ends with the one stop
pub feed_ends : (a : Accepted) → ends_with_stop (values_of_accepted a) ≡ true
feed_ends a = behind a.items
  where
    behind : (items : List Item) → ends_with_stop (flat_map values_of_item items ++ fed.Stop (stop_from a.refused) ∷ []) ≡ true
    behind [] = refl
    behind (item.Rec s r ∷ items) = behind items
    behind (item.Mark s t ∷ items) = behind items
    behind (item.Skip ∷ items) = behind items
    behind (item.Late n t m ∷ items) = behind items

both_none : (xs ys : List Fed) → length (xs ++ ys) ≡ 0 → xs ≡ []
both_none [] ys none = refl
both_none (x ∷ xs) ys none = cc none

-- the first of such values, where a stop is among them, are all of them
pub first_with_stop : (received values : List Fed) → ends_with_stop values ≡ true → IsPrefix received values → has_stop received ≡ true → received ≡ values
first_with_stop [] values ends (more, are) some = cc some
first_with_stop (x ∷ xs) [] ends (more, are) some = cc are
first_with_stop (x ∷ xs) (fed.Item i ∷ values) ends (more, are) some =
    let same : x ≡ fed.Item i = cc are in
    let later : has_stop xs ≡ true = sym (ap (λ v. is_stop v || has_stop xs) same) ∙ some in
    λ j. same j ∷ first_with_stop xs values ends (more, cc are) later j
first_with_stop (x ∷ xs) (fed.Stop s ∷ values) ends (more, are) some =
    let same : x ≡ fed.Stop s = cc are in
    let rest : xs ++ more ≡ values = cc are in
    let none : length values ≡ 0 = eqb-true (length values) 0 ends in
    let here : xs ≡ [] = both_none xs more (ap length rest ∙ none) in
    let there : values ≡ [] = both_none values [] (ap length (append-nil values) ∙ none) in
    λ j. same j ∷ (here ∙ sym there) j
