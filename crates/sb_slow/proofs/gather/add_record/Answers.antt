use Rattle.std.proofs.Common.{◌≡◌, ℕ, List, [], ◌∷◌, ◌++◌, subst, sym, ap, ◌∙◌}
use Rattle.std.specs.BTreeMap.{get}
use Rattle.std.proofs.lemmas.Map.Iter.{rest_more, rest_all}
use Rattle.sb_base.specs.window.Windows.{keyed_window_cmp, window_ends}
use Rattle.sb_base.proofs.window.Multiples.{Rising, window_ends-rising}
use Rattle.sb_slow.specs.Gathered.{values_with}
use Rattle.sb_base.proofs.window.Gathering.{joined_none, made_at, made_at-more, made_at-no_ends, made_at-window_ends}
use Rattle.sb_slow.proofs.gather.add_record.Goals as goal

pub loop-end-init : goal.loop-end-init
loop-end-init c =
    let value = c.args.record.now.value ∷ [] in
    let key = c.args.record.now.key in
    let all : c.into_iter-end-iterator.result ≡ window_ends c.args.windows.now c.args.record.now.time = c.into_iter-end-iterator.ensures.into_iter_gives ∙ c.ends-end-items.ensures in
    record {
      so_far = λ q. ap (λ es. values_with (get keyed_window_cmp c.args.values.now q) (made_at value key es q)) all;
      rest = subst (λ (es : List ℕ). Rising es) (sym all) (window_ends-rising c.args.windows.now c.args.record.now.time);
    }

pub loop-end-preserved : goal.loop-end-preserved
loop-end-preserved c =
    let value = c.args.record.now.value ∷ [] in
    let key = c.args.record.now.key in
    let e = rest_more (λ (x : ℕ). x) c.loop-end.end-iterator c.next.new.self c.next.result c.in-Some.end c.in-Some.is c.next.ensures.steps in
    let rising : Rising (c.in-Some.end ∷ c.next.new.self) = subst (λ (es : List ℕ). Rising es) e c.loop-end.invariant.rest in
    record {
      so_far = λ q. made_at-more (λ vs ws. vs ++ ws) value key c.in-Some.end c.next.new.self rising (get keyed_window_cmp c.loop-end.values) (get keyed_window_cmp c.add_value.new.values) c.in_ok-add_value.ensures q
          ∙ ap (λ es. values_with (get keyed_window_cmp c.loop-end.values q) (made_at value key es q)) (sym e) ∙ c.loop-end.invariant.so_far q;
      rest = rising.1;
    }

pub returns : goal.returns
returns c =
    let value = c.args.record.now.value ∷ [] in
    let key = c.args.record.now.key in
    let none = rest_all (λ (x : ℕ). x) c.loop-end.end-iterator c.next.new.self c.next.result c.in-None.is c.next.ensures.steps in
    λ q.
    sym (ap (values_with (get keyed_window_cmp c.loop-end.values q)) (ap (λ es. made_at value key es q) none ∙ made_at-no_ends value key q) ∙ joined_none (λ vs ws. vs ++ ws) (get keyed_window_cmp c.loop-end.values q))
    ∙ c.loop-end.invariant.so_far q
    ∙ ap (values_with (get keyed_window_cmp c.args.values.now q)) (made_at-window_ends (λ vs. vs) c.args.windows.now c.args.record.now q)
