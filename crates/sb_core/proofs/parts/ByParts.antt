-- An event, taken apart into what it does to the part of its node.
use Rattle.std.proofs.Common.{◌≡◌, ℕ, Bool, true, false, cond, List, [], ◌∷◌, ◌++◌, Some, None, Option, refl, sym, ap, ◌∙◌, inl, inr, ⊎_elim}
use Rattle.std.specs.Prelude.{◌⊎◌, slice_get}
use Rattle.std.proofs.lemmas.Option.{same_Some}
use Rattle.sb_containers.specs.base.NumberLemmas.{bind_some}
use Rattle.sb_containers.specs.base.records.declared.item.Record.{Record}
use Rattle.sb_containers.specs.base.records.Reading.{◌>>=◌}
use Rattle.sb_containers.specs.base.pipeline.Shapes.{Shape}
use Rattle.sb_core.specs.declared.moment.Moment.{Moment}
use Rattle.sb_core.specs.declared.moment.Node.{Node}
use Rattle.sb_core.specs.declared.held.Held.{Held}
use Rattle.sb_core.specs.declared.held.Held.TheVariants.{Work, Close}
use Rattle.sb_core.specs.declared.event.Event.{Event}
use Rattle.sb_core.specs.declared.event.Event.TheVariants.{Arrive, Seal, Take, Deliver, Finish, Begin, Pass, End}
use Rattle.sb_containers.specs.Choices.{only_if, first_and_rest}
use Rattle.sb_core.specs.Events.{below, place_of, concerns, is_of_held, Part, only_node, put_in, part_after, held_after, with_part, moment_after, held_moment_after, after}
use Rattle.sb_containers.specs.Lanes.{take_from, closable}
use Rattle.sb_core.specs.Laws.{OneNodeChanges, remains_of, takes_up}
use Rattle.sb_core.specs.Moments.{with_held}
use Rattle.sb_core.specs.Parts.{IsPart, IsHeldPart, HeldPartsAreEvents}
use Rattle.sb_containers.proofs.Lists.{cond_is_some}

-- a chain that is known step by step
pub chain : {X Y : Type 0} (o : Option X) (f : X → Option Y) (x : X) (y : Y) → o ≡ Some x → f x ≡ Some y → (o >>= f) ≡ Some y
chain o f x y h k = ap (λ o. o >>= f) h ∙ k

pub passing : {X : Type 0} (b : Bool) (o : Option X) (x : X) → b ≡ true → o ≡ Some x → only_if b o ≡ Some x
passing b o x h k = ap (λ b. cond b o None) h ∙ k

-- where no element passes, none is pulled out
pulled-none : {X : Type 0} (p : X → Bool) (xs : List X) → ((x : X) → p x ≡ false) → first_and_rest p xs ≡ None
pulled-none p [] none = refl
pulled-none {X} p (x ∷ xs) none = (λ i. cond {A = Option (X × List X)} (none x i) (Some (x, xs)) (first_and_rest p xs >>= λ q. Some (q.0, x ∷ q.1))) ∙ ap (λ o. o >>= λ q. Some (q.0, x ∷ q.1)) (pulled-none p xs none)

-- and where the first passes, it is
pulled-head : {X : Type 0} (p : X → Bool) (x : X) (xs : List X) → p x ≡ true → first_and_rest p (x ∷ xs) ≡ Some (x, xs)
pulled-head {X} p x xs e = ap (λ b. cond {A = Option (X × List X)} b (Some (x, xs)) (first_and_rest p xs >>= λ q. Some (q.0, x ∷ q.1))) e

-- an event of nothing held concerns nothing
concerns-none : (event : Event) (h : Held) → is_of_held event ≡ false → concerns event h ≡ false
concerns-none (Arrive stream records) h e = refl
concerns-none (Seal stream mark) h e = refl
concerns-none (Take node lane number) h e = refl
concerns-none (Begin node lane) h e = refl
concerns-none (Deliver node lane number) h e = cc
concerns-none (Finish node lane number) h e = cc
concerns-none (Pass node) h e = cc
concerns-none (End node) h e = cc

-- an event of a Work or a Close does nothing to a part alone
pub alone : (plan : Shape) (bundle : ℕ) (event : Event) (node : Node) (p : Part) → part_after plan bundle event node ≡ Some p → is_of_held event ≡ false
alone plan bundle (Arrive stream records) node p h = refl
alone plan bundle (Seal stream mark) node p h = refl
alone plan bundle (Take k l number) node p h = refl
alone plan bundle (Begin k l) node p h = refl
alone plan bundle (Deliver k l number) node p h = cc
alone plan bundle (Finish k l number) node p h = cc
alone plan bundle (Pass k) node p h = cc
alone plan bundle (End k) node p h = cc

of_held : (event : Event) (h : Held) → concerns event h ≡ true → is_of_held event ≡ true
of_held event h c = by_case (is_of_held event) refl
  where
    by_case : (b : Bool) → is_of_held event ≡ b → is_of_held event ≡ true
    by_case true e = e
    by_case false e = let f : false ≡ true = sym (concerns-none event h e) ∙ c in cc

-- each event whose condition holds does to the moment what it does to a part
pub apart : (plan : Shape) (m later : Moment) (event : Event) → after plan m event ≡ Some later → IsPart plan m event later ⊎ IsHeldPart plan m event later
apart plan m later event h =
    let a = bind_some (place_of plan event) _ later h in
    let b = bind_some (slice_get m.nodes a.0) _ later a.2 in
    by_case (is_of_held event) refl a.0 b.0 a.1 b.1 b.2
  where
    by_case : (t : Bool) → is_of_held event ≡ t → (k : ℕ) (node : Node) → place_of plan event ≡ Some k → slice_get m.nodes k ≡ Some node
        → cond t (held_moment_after plan m event k node) (moment_after plan m event k node) ≡ Some later → IsPart plan m event later ⊎ IsHeldPart plan m event later
    by_case true e k node place there h =
        let q = bind_some (first_and_rest (concerns event) m.held) _ later h in
        let d = bind_some (held_after plan m.bundle event q.0.0 node) _ later q.2 in
        inr (record { h = q.0.0; others = q.0.1; found = q.1; k = k; node = node; part = d.0; place = place; there = there; does = d.1; gives = sym (same_Some _ _ d.2) })
    by_case false e k node place there h =
        let d = bind_some (part_after plan m.bundle event node) _ later h in
        inl (record { alone = pulled-none (concerns event) m.held (λ x. concerns-none event x e); k = k; node = node; part = d.0; place = place; there = there; does = d.1; gives = sym (same_Some _ _ d.2) })

-- and what it does to a part it does to the moment
pub part-is_event : (plan : Shape) (m : Moment) (event : Event) (k : ℕ) (node : Node) (p : Part) → place_of plan event ≡ Some k → slice_get m.nodes k ≡ Some node
    → part_after plan m.bundle event node ≡ Some p → after plan m event ≡ Some (with_part k m.held m p)
part-is_event plan m event k node p place there does =
    chain (place_of plan event) _ k _ place
    (chain (slice_get m.nodes k) _ node _ there
    (ap (λ t. cond t (held_moment_after plan m event k node) (moment_after plan m event k node)) (alone plan m.bundle event node p does)
    ∙ chain (part_after plan m.bundle event node) _ p _ does refl))

pub held-parts_are_events : HeldPartsAreEvents
held-parts_are_events plan m event h rest k node p c place there does =
    chain (place_of plan event) _ k _ place
    (chain (slice_get m.nodes k) _ node _ there
    (ap (λ t. cond t (held_moment_after plan (with_held (h ∷ rest) m) event k node) (moment_after plan (with_held (h ∷ rest) m) event k node)) (of_held event h c)
    ∙ chain (first_and_rest (concerns event) (h ∷ rest)) _ (h, rest) _ (pulled-head (concerns event) h rest c)
    (chain (held_after plan m.bundle event h node) _ p _ does refl)))

-- an event changes the node of its place alone
pub one-node_changes : OneNodeChanges
one-node_changes plan m later event h = ⊎_elim
    (λ (p : IsPart plan m event later). (p.k, p.part.node, p.place, ap (λ (x : Moment). x.nodes) p.gives))
    (λ (p : IsHeldPart plan m event later). (p.k, p.part.node, p.place, ap (λ (x : Moment). x.nodes) p.gives)) (apart plan m later event h)

-- ---- what becomes of a Work or a Close, and which rows it adds
leaves : (held : List Held) (node : Node) (p : Part) → Some (only_node held node) ≡ Some p → (p.held ≡ held) × (p.rows ≡ [])
leaves held node p h = let is = same_Some (only_node held node) p h in (ap (λ (p : Part). p.held) (sym is), ap (λ (p : Part). p.rows) (sym is))

pub put_leaves : (node : Node) (l epoch floor : ℕ) (records : List Record) (held : List Held) (p : Part) → put_in l epoch floor records held node ≡ Some p → (p.held ≡ held) × (p.rows ≡ [])
put_leaves node l epoch floor records held p h =
    let b = bind_some (slice_get node.lanes l) _ p h in
    leaves held _ p (cond_is_some _ _ p b.2).1

pub held-leaves : (plan : Shape) (bundle : ℕ) (event : Event) (h : Held) (node : Node) (p : Part) → held_after plan bundle event h node ≡ Some p → (p.held ≡ remains_of bundle event h) × (p.rows ≡ [])
held-leaves plan bundle (Arrive stream records) held node p h = cc
held-leaves plan bundle (Seal stream mark) held node p h = cc
held-leaves plan bundle (Take k l number) held node p h = cc
held-leaves plan bundle (Begin k l) held node p h = cc
held-leaves plan bundle (Deliver k i n) (Close y l epoch serial floor mark rows passed) node p h =
    let b = bind_some (below plan y) _ p h in
    put_leaves node b.0.lane serial floor _ _ p (cond_is_some _ _ p b.2).1
held-leaves plan bundle (Deliver k i n) (Work y l epoch floor number records delivered) node p h =
    let b = bind_some (below plan y) _ p h in
    put_leaves node b.0.lane epoch floor _ _ p (cond_is_some _ _ p b.2).1
held-leaves plan bundle (Finish k i n) (Close y l epoch serial floor mark rows passed) node p h = cc
held-leaves plan bundle (Finish k i n) (Work y l epoch floor number records delivered) node p h =
    let b = bind_some (slice_get node.lanes l) _ p h in
    leaves [] _ p (cond_is_some _ _ p b.2).1
held-leaves plan bundle (Pass k) (Work y l epoch floor number records delivered) node p h = cc
held-leaves plan bundle (Pass k) (Close y l epoch serial floor mark rows passed) node p h =
    let b = bind_some (below plan y) _ p h in
    let c = bind_some (slice_get node.lanes b.0.lane) _ p b.2 in
    leaves _ _ p (cond_is_some _ _ p c.2).1
held-leaves plan bundle (End k) (Work y l epoch floor number records delivered) node p h = cc
held-leaves plan bundle (End k) (Close y l epoch serial floor mark rows passed) node p h =
    let b = bind_some (slice_get node.lanes l) _ p h in
    leaves [] _ p (cond_is_some _ _ p b.2).1

-- an event of the Work or Close at the head leaves the others
pub head-left : (plan : Shape) (m later : Moment) (event : Event) (h : Held) (rest : List Held) → concerns event h ≡ true → after plan (with_held (h ∷ rest) m) event ≡ Some later
    → later.held ≡ rest ++ remains_of m.bundle event h
head-left plan m later event h rest c e = ⊎_elim
    (λ (p : IsPart plan (with_held (h ∷ rest) m) event later). absurd (none (sym p.alone ∙ pulled-head (concerns event) h rest c)))
    (λ (p : IsHeldPart plan (with_held (h ∷ rest) m) event later). let same : ◌≡◌ {A = Held × List Held} (p.h, p.others) (h, rest) = same_Some _ _ (sym p.found ∙ pulled-head (concerns event) h rest c) in
    ap (λ (x : Moment). x.held) p.gives ∙ (λ i. (same i).1 ++ ((held-leaves plan m.bundle event p.h p.node p.part p.does).0 ∙ ap (λ (q : Held × List Held). remains_of m.bundle event q.0) same) i))
    (apart plan (with_held (h ∷ rest) m) later event e)
  where
    none : ◌≡◌ {A = Option (Held × List Held)} None (Some (h, rest)) → ⊥
    none e = cc

-- a Take and a Begin hold one more
takes_one : (plan : Shape) (bundle : ℕ) (event : Event) (node : Node) (p : Part) → takes_up event ≡ true → part_after plan bundle event node ≡ Some p → (h : Held) × (p.held ≡ h ∷ [])
takes_one plan bundle (Take n l number) node p t e =
    let b = bind_some (slice_get node.lanes l) _ p e in
    let c = bind_some (take_from number b.0.conts) _ p b.2 in
    (Work n l c.0.0.epoch c.0.0.floor number c.0.0.records false, ap (λ (p : Part). p.held) (sym (same_Some _ p c.2)))
takes_one plan bundle (Begin n l) node p t e =
    let b = bind_some (slice_get node.lanes l) _ p e in
    let c = bind_some (closable b.0.ended b.0.conts) _ p b.2 in
    let d = cond_is_some _ _ p c.2 in
    (_, ap (λ (p : Part). p.held) (sym (same_Some _ p d.1)))
takes_one plan bundle (Arrive stream records) node p t e = cc
takes_one plan bundle (Seal stream mark) node p t e = cc
takes_one plan bundle (Deliver n l number) node p t e = cc
takes_one plan bundle (Finish n l number) node p t e = cc
takes_one plan bundle (Pass n) node p t e = cc
takes_one plan bundle (End n) node p t e = cc

pub took : (plan : Shape) (m later : Moment) (event : Event) → takes_up event ≡ true → after plan m event ≡ Some later → (h : Held) × (later.held ≡ m.held ++ h ∷ [])
took plan m later event t e =
    let a = bind_some (place_of plan event) _ later e in
    let b = bind_some (slice_get m.nodes a.0) _ later a.2 in
    let p = bind_some (part_after plan m.bundle event b.0) _ later (ap (λ t. cond t (held_moment_after plan m event a.0 b.0) (moment_after plan m event a.0 b.0)) (sym (plain event t)) ∙ b.2) in
    let h = takes_one plan m.bundle event b.0 p.0 t p.1 in
    (h.0, ap (λ (x : Moment). x.held) (sym (same_Some (with_part a.0 m.held m p.0) later p.2)) ∙ ap (λ hs. m.held ++ hs) h.1)
  where
    plain : (event : Event) → takes_up event ≡ true → is_of_held event ≡ false
    plain (Take node lane number) t = refl
    plain (Begin node lane) t = refl
    plain (Arrive stream records) t = refl
    plain (Seal stream mark) t = refl
    plain (Deliver node lane number) t = cc
    plain (Finish node lane number) t = cc
    plain (Pass node) t = cc
    plain (End node) t = cc
