-- How far the feeding of what comes out of the ring of an input has come.
use Rattle.std.proofs.Common.{◌≡◌, ℕ, List, [], ◌∷◌, ◌++◌, Some, None, sym, ap, subst, ◌∙◌, append-nil}
use Rattle.sb_engines.specs.feeds.base.records.declared.intake.Stop.{Stop}
use Rattle.sb_engines.specs.feeds.base.records.declared.item.Record.{Record}
use Rattle.sb_engines.specs.feeds.base.pipeline.Shapes.{Shape, streams_of}
use Rattle.sb_engines.specs.feeds.emit.Taps.{TapState}
use Rattle.sb_engines.specs.feeds.one_feed.declared.give.GiveStop.{GiveStop}
use Rattle.sb_engines.specs.feeds.one_feed.declared.give.GiveStop.TheVariants as give
use Rattle.sb_engines.specs.feeds.one_feed.Feeds.{AreRowsSoFar, Fed, nothing_fed}
use Rattle.sb_engines.specs.feeds.one_feed.Gives.{GivesOut, StopsOut}
use Rattle.sb_engines.specs.feeds.one_feed.TapLists.{LeavesThoseThatStay}
use Rattle.sb_engines.proofs.feeds.one_feed.GivesInTurn.{AddsUp, stops_none, stops_then, taps_behind, wrote_behind}
use Rattle.sb_engines.proofs.feeds.one_feed.OfferedRows.{both_offered, none_offered}
use Rattle.sb_engines.proofs.feeds.one_feed.RowsApart.{apart_so_far}
use Rattle.sb_engines.specs.feeds.declared.input.fed.InputFed.{InputFed}
use Rattle.sb_engines.specs.feeds.declared.input.fed.InputFed.TheVariants as fed
use Rattle.sb_engines.specs.feeds.InputEnds.{begun_values}
use Rattle.sb_engines.specs.feeds.InputFed.{MayCome, MayFollow, fed_by, fed_with}
use Rattle.sb_engines.proofs.feeds.InputValues.{fed_then, may_come, so_far_with}
use Rattle.sb_run.specs.InputPops.{FeedsInPart, FeedsToStop, HaveCome}
use Rattle.sb_engines.proofs.alone.Sharing.{gives_as}

-- what lies around the engine: where its rows go
pub record AroundRows (O : Type 0) : Type 0 where
  pub out : O
  pub taps : List TapState

-- ---- the loop
module _ {O : Type 0} (after : O → List Record → O → Type 0) (plan : Shape) (size : ℕ) where
  -- the values so far were fed
  pub record PoppedSoFar (stands : Fed → List Record → Type 0) (start now : AroundRows O) (values : List InputFed) : Type 0 where
    pub popped : List InputFed
    pub came : HaveCome plan size values popped None
    pub rows : List Record
    pub stand : stands (fed_by popped) rows
    pub wrote : after start.out rows now.out
    pub offered : LeavesThoseThatStay rows start.taps now.taps

module _ {O : Type 0} (after part : O → List Record → O → Type 0) (laws : AddsUp after part) (plan : Shape) (size : ℕ) where
  pub nothing_popped : (stands : Fed → List Record → Type 0) (start : AroundRows O) (values : List InputFed) → values ≡ begun_values (streams_of plan) size → stands nothing_fed [] → PoppedSoFar after plan size stands start start values
  nothing_popped stands start values none stand = record {
    popped = [];
    came = none;
    rows = [];
    stand = stand;
    wrote = laws.after_none start.out;
    offered = none_offered start.taps;
  }

  module _ (stands : Fed → List Record → Type 0) (so : (f : Fed) (rows : List Record) → stands f rows → AreRowsSoFar plan f rows) (start now : AroundRows O) (values : List InputFed)
      (h : PoppedSoFar after plan size stands start now values) where
    so_far : AreRowsSoFar plan (fed_by h.popped) h.rows
    so_far = so (fed_by h.popped) h.rows h.stand

    values_are : values ≡ fed.Begin (streams_of plan) size ∷ h.popped
    values_are = h.came ∙ ap (λ l. fed.Begin (streams_of plan) size ∷ l) (append-nil h.popped)

    -- nothing came, and rows came out that lay ready
    module _ (next : AroundRows O) (values' : List InputFed) (none : values' ≡ values) where
      came_still : HaveCome plan size values' h.popped None
      came_still = none ∙ h.came

      pub popped_still : (later : Fed → List Record → Type 0) → ((f : Fed) (rows : List Record) → later f rows → AreRowsSoFar plan f rows) → GivesOut (later (fed_by h.popped)) after now.out next.out now.taps next.taps h.rows
          → PoppedSoFar after plan size later start next values'
      popped_still later so_later gives = record {
        popped = h.popped;
        came = came_still;
        rows = h.rows ++ gives.rows;
        stand = gives.stand;
        wrote = laws.after_more start.out now.out next.out h.rows gives.rows (apart_so_far plan (fed_by h.popped) [] h.rows gives.rows so_far (so_later (fed_by h.popped) _ gives.stand)) h.wrote gives.wrote;
        offered = both_offered h.rows gives.rows start.taps now.taps next.taps h.offered gives.offered;
      }

      -- or not all of them did
      pub popped_stops : (why : GiveStop) → StopsOut plan after part now.out next.out now.taps next.taps (fed_by h.popped) h.rows why → FeedsInPart plan size values' after part start.out next.out start.taps next.taps why
      popped_stops why stops = record {
        popped = h.popped;
        stop = None;
        came = came_still;
        rows = h.rows ++ stops.rows;
        so_far = stops.so_far;
        wrote = wrote_behind after part laws why start.out now.out next.out h.rows stops.rows (apart_so_far plan (fed_by h.popped) [] h.rows stops.rows so_far stops.so_far) h.wrote stops.wrote;
        at = taps_behind why h.rows stops.rows start.taps now.taps next.taps h.offered stops.at;
      }

    -- the next value came
    module _ (v : InputFed) (follows : MayFollow values v) where
      pub value_may_come : MayCome plan size (fed_by h.popped) v
      value_may_come = may_come plan size values h.popped values_are v follows

      module _ (next : AroundRows O) (values' : List InputFed) (more : values' ≡ values ++ v ∷ []) where
        came_more : HaveCome plan size values' (h.popped ++ v ∷ []) None
        came_more = more ∙ ap (λ l. l ++ v ∷ []) values_are ∙ ap (λ l. fed.Begin (streams_of plan) size ∷ l) (sym (append-nil (h.popped ++ v ∷ [])))

        so_far_then : AreRowsSoFar plan (fed_with v (fed_by h.popped)) h.rows
        so_far_then = so_far_with plan size v (fed_by h.popped) h.rows value_may_come so_far

        fed_now : fed_with v (fed_by h.popped) ≡ fed_by (h.popped ++ v ∷ [])
        fed_now = sym (fed_then h.popped v nothing_fed)

        -- it was taken
        pub popped_more : (later : Fed → List Record → Type 0) → ((f : Fed) (rows : List Record) → later f rows → AreRowsSoFar plan f rows)
            → GivesOut (later (fed_with v (fed_by h.popped))) after now.out next.out now.taps next.taps h.rows → PoppedSoFar after plan size later start next values'
        popped_more later so_later gives = record {
          popped = h.popped ++ v ∷ [];
          came = came_more;
          rows = h.rows ++ gives.rows;
          stand = subst (λ f. later f (h.rows ++ gives.rows)) fed_now gives.stand;
          wrote = laws.after_more start.out now.out next.out h.rows gives.rows (apart_so_far plan (fed_with v (fed_by h.popped)) [] h.rows gives.rows so_far_then (so_later (fed_with v (fed_by h.popped)) _ gives.stand)) h.wrote gives.wrote;
          offered = both_offered h.rows gives.rows start.taps now.taps next.taps h.offered gives.offered;
        }

        -- it could not be taken
        pub popped_fails : (why : GiveStop) → StopsOut plan after part now.out next.out now.taps next.taps (fed_with v (fed_by h.popped)) h.rows why → FeedsInPart plan size values' after part start.out next.out start.taps next.taps why
        popped_fails why stops = record {
          popped = h.popped ++ v ∷ [];
          stop = None;
          came = came_more;
          rows = h.rows ++ stops.rows;
          so_far = subst (λ f. AreRowsSoFar plan f (h.rows ++ stops.rows)) fed_now stops.so_far;
          wrote = wrote_behind after part laws why start.out now.out next.out h.rows stops.rows (apart_so_far plan (fed_with v (fed_by h.popped)) [] h.rows stops.rows so_far_then stops.so_far) h.wrote stops.wrote;
          at = taps_behind why h.rows stops.rows start.taps now.taps next.taps h.offered stops.at;
        }

    -- the stop came
    pub popped_all : (stop : Stop) (values' : List InputFed) → values' ≡ values ++ fed.Stop stop ∷ [] → FeedsToStop plan size values' stands after start.out now.out start.taps now.taps stop
    popped_all stop values' more = record {
      popped = h.popped;
      came = more ∙ ap (λ l. l ++ fed.Stop stop ∷ []) values_are;
      gives = record { rows = h.rows; stand = h.stand; wrote = h.wrote; offered = h.offered };
    }

    -- the reader has found no memory
    pub popped_lack : (values' : List InputFed) → values' ≡ values ++ fed.NoMemory ∷ [] → FeedsInPart plan size values' after part start.out now.out start.taps now.taps give.Memory
    popped_lack values' more = record {
      popped = h.popped ++ fed.NoMemory ∷ [];
      stop = None;
      came = more ∙ ap (λ l. l ++ fed.NoMemory ∷ []) values_are ∙ ap (λ l. fed.Begin (streams_of plan) size ∷ l) (sym (append-nil (h.popped ++ fed.NoMemory ∷ [])));
      rows = h.rows;
      so_far = subst (λ f. AreRowsSoFar plan f h.rows) (sym (fed_then h.popped fed.NoMemory nothing_fed)) so_far;
      wrote = subst (λ l. part start.out l now.out) (append-nil h.rows) (laws.part_of_all start.out now.out h.rows [] h.wrote);
      at = tt;
    }

  -- nothing was done
  pub popped_none : (o : O) (taps : List TapState) (values : List InputFed) → values ≡ begun_values (streams_of plan) size → AreRowsSoFar plan nothing_fed [] → FeedsInPart plan size values after part o o taps taps give.Memory
  popped_none o taps values none so = record {
    popped = [];
    stop = None;
    came = none;
    rows = [];
    so_far = so;
    wrote = laws.part_of_all o o [] [] (laws.after_none o);
    at = tt;
  }

-- ---- behind the loop
module _ {O : Type 0} (after part : O → List Record → O → Type 0) (laws : AddsUp after part) (plan : Shape) (size : ℕ) (values : List InputFed) (stands : Fed → List Record → Type 0)
    (o p : O) (taps taps1 : List TapState) (stop : Stop) (e : FeedsToStop plan size values stands after o p taps taps1 stop) where
  -- an engine that stands otherwise
  pub popped_as : (later : Fed → List Record → Type 0) → ((f : Fed) (rows : List Record) → stands f rows → later f rows) → FeedsToStop plan size values later after o p taps taps1 stop
  popped_as later so = record {
    popped = e.popped;
    came = e.came;
    gives = gives_as (stands (fed_by e.popped)) (later (fed_by e.popped)) after o p taps taps1 [] (so (fed_by e.popped)) e.gives;
  }

  -- there was no memory
  pub popped_without : ((f : Fed) (rows : List Record) → stands f rows → AreRowsSoFar plan f rows) → FeedsInPart plan size values after part o p taps taps1 give.Memory
  popped_without so =
      let so_far = so (fed_by e.popped) e.gives.rows e.gives.stand in
      let stops = stops_none after part laws plan p taps1 (fed_by e.popped) e.gives.rows so_far in
      let n = stops_then after part laws plan (stands (fed_by e.popped)) o p p taps taps1 taps1 (fed_by e.popped) [] give.Memory e.gives stops (apart_so_far plan (fed_by e.popped) [] e.gives.rows stops.rows so_far stops.so_far) in
      record {
        popped = e.popped;
        stop = Some stop;
        came = e.came;
        rows = n.rows;
        so_far = n.so_far;
        wrote = n.wrote;
        at = n.at;
      }
