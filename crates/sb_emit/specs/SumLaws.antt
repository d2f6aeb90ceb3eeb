-- The laws of a summary as an output. Each is proved here, where its implementation can name it.
use Rattle.std.proofs.Common.{◌≡◌, ℕ, ◌+◌, ◌%◌, ◌^◌, ◌++◌, List, [], refl, sym, ap, ◌∙◌, append_assoc, length, length-append, add-zero, add_assoc}
use Rattle.std.specs.List.{sum_by}
use Rattle.std.proofs.lemmas.List.Sums.{sum_by-append}
use Rattle.std.proofs.Math.Nat.{mod-add-mod}
use Rattle.sb_record.specs.declared.item.Record.{Record}
use Rattle.sb_emit.specs.Summaries.{Sums, Adds, AddsPrefix, value_of, check_of}

nothing_more : (a : ℕ) → a % 2 ^ 64 ≡ (a + 0) % 2 ^ 64
nothing_more a = ap (λ n. n % 2 ^ 64) (sym (add-zero a))

-- a number grows by x and then by y
grown_twice : (a b c x y z : ℕ) → b % 2 ^ 64 ≡ (a + x) % 2 ^ 64 → c % 2 ^ 64 ≡ (b + y) % 2 ^ 64
    → z ≡ x + y → c % 2 ^ 64 ≡ (a + z) % 2 ^ 64
grown_twice a b c x y z h k is =
    k
    ∙ sym (mod-add-mod b (2 ^ 64) y)
    ∙ ap (λ n. (n + y) % 2 ^ 64) h
    ∙ mod-add-mod (a + x) (2 ^ 64) y
    ∙ ap (λ n. n % 2 ^ 64) (add_assoc a x y ∙ ap (λ n. a + n) (sym is))

pub after_none : (o : Sums) → Adds o [] o
after_none o = record { count = nothing_more o.count; sum = nothing_more o.sum; check = nothing_more o.check }

pub after_more : (o p q : Sums) (l m : List Record) → Adds o l p → Adds p m q → Adds o (l ++ m) q
after_more o p q l m h k =
    record {
      count =
          grown_twice o.count p.count q.count (length l) (length m) (length (l ++ m))
          h.count k.count (length-append l m);
      sum =
          grown_twice o.sum p.sum q.sum (sum_by value_of l) (sum_by value_of m) (sum_by value_of (l ++ m))
          h.sum k.sum (sum_by-append value_of l m);
      check =
          grown_twice o.check p.check q.check (sum_by check_of l) (sum_by check_of m) (sum_by check_of (l ++ m))
          h.check k.check (sum_by-append check_of l m);
    }

pub part_later : (o p q : Sums) (l m : List Record) → Adds o l p → AddsPrefix p m q → AddsPrefix o (l ++ m) q
part_later o p q l m h k =
    record {
      prefix = l ++ k.prefix;
      rest = k.rest;
      whole = ap (λ x. l ++ x) k.whole ∙ sym (append_assoc l k.prefix k.rest);
      adds = after_more o p q l k.prefix h k.adds;
    }

pub part_of_all : (o p : Sums) (l m : List Record) → Adds o l p → AddsPrefix o (l ++ m) p
part_of_all o p l m h = record { prefix = l; rest = m; whole = refl; adds = h }

pub part_of_more : (o p : Sums) (l m : List Record) → AddsPrefix o l p → AddsPrefix o (l ++ m) p
part_of_more o p l m h =
    record {
      prefix = h.prefix;
      rest = h.rest ++ m;
      whole = ap (λ x. x ++ m) h.whole ∙ append_assoc h.prefix h.rest m;
      adds = h.adds;
    }
