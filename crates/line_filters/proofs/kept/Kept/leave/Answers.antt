use Rattle.std.proofs.Common.{◌≡◌, ◌++◌, ◌∷◌, [], ◌∙◌, ◌<◌, ◌≤◌, ℕ, zero, suc, false, true, List}
use Rattle.std.proofs.Common.{arith, ap, drop, subst, length, sym, refl}
use Rattle.line_filters.specs.KeptParts.{AreCounted, AreSized, amount_of, kept_bytes, later_bytes}
use Rattle.line_filters.specs.Skips.{last_of}
use Rattle.line_filters.specs.declared.held.Held.{Held}
use Rattle.commands.specs.declared.tail_words.Counted.{Counted}
use Rattle.line_filters.proofs.lemmas.KeptLaws.{counted_less, few_later, few_only, last_less}
use Rattle.line_filters.proofs.lemmas.KeptLaws.{front_is}
use Rattle.line_filters.proofs.lemmas.SizedLaws.{sized_less}
use Rattle.line_filters.proofs.kept.Kept.leave.Goals as goal

pub invariant_of-self : goal.invariant_of-self
invariant_of-self c =
    let k = c.loop-first.self in
    let h = c.in-Some.first.now in
    let hs = c.pop_front-first.new.self.items in
    let some : 0 < length k.full.items =
    omega (arith, c.in-Some.ensures.variant.0 refl, k.full.ok) in
    let split : k.full.items ≡ h ∷ hs =
    front_is k.full.items hs h some c.in-Some.ensures.lookup c.pop_front-first.ensures.rest in
    record {
      right = counted_less k.counted h (hs ++ k.last ∷ []) k.amount _ c.args.count _
          (subst (λ (x : List Held). AreCounted k.counted (x ++ k.last ∷ []) k.amount k.incomplete)
          split k.right) (omega (arith, c.from.ensures))
          (omega (arith, c.if-rest-from.false, c.from-in-Some.ensures));
      sized = sized_less k.longest.bytes h (hs ++ k.last ∷ [])
          (subst (λ (x : List Held). AreSized k.longest.bytes (x ++ k.last ∷ [])) split k.sized);
    }

pub loop-first-preserved-else-rest-from : goal.loop-first-preserved-else-rest-from
loop-first-preserved-else-rest-from c =
    let k = c.loop-first.self in
    let h = c.in-Some.first.now in
    let hs = c.pop_front-first.new.self.items in
    let some : 0 < length k.full.items =
    omega (arith, c.in-Some.ensures.variant.0 refl, k.full.ok) in
    let split : k.full.items ≡ h ∷ hs =
    front_is k.full.items hs h some c.in-Some.ensures.lookup c.pop_front-first.ensures.rest in
    record {
      last = λ zs.
          ap (λ (d : Counted). last_of d c.args.count (kept_bytes hs k.last ++ zs))
          (sym c.loop-first.invariant.counted)
          ∙ (last_less k.counted h (hs ++ k.last ∷ []) k.amount c.args.count k.incomplete
          (subst (λ (x : List Held). AreCounted k.counted
          (x ++ k.last ∷ []) k.amount k.incomplete) split k.right)
          (omega (arith, c.if-rest-from.false, c.from.ensures, c.from-in-Some.ensures)) zs
          ∙ (ap (λ (x : List Held). last_of k.counted c.args.count (kept_bytes x k.last ++ zs))
          (sym split)
          ∙ (ap (λ (d : Counted). last_of d c.args.count (kept_bytes k.full.items k.last ++ zs))
          c.loop-first.invariant.counted ∙ c.loop-first.invariant.last zs)));
      counted = c.loop-first.invariant.counted;
      longest = c.loop-first.invariant.longest;
    }

pub returns-then-rest-from-clause-few : goal.returns-then-rest-from-clause-few
returns-then-rest-from-clause-few c =
    let k = c.loop-first.self in
    let h = c.in-Some.first.now in
    let hs = drop 1 k.full.items in
    let some : 0 < length k.full.items =
    omega (arith, c.in-Some.ensures.variant.0 refl, k.full.ok) in
    let split : k.full.items ≡ h ∷ hs =
    front_is k.full.items hs h some c.in-Some.ensures.lookup refl in
    subst (λ (d : Counted). amount_of d (later_bytes k.full.items k.last) ≤ c.args.count)
    c.loop-first.invariant.counted
    (subst (λ (x : List Held). amount_of k.counted (later_bytes x k.last) ≤ c.args.count)
    (sym split)
    (few_later k.counted h (hs ++ k.last ∷ []) k.amount c.args.count k.incomplete
    (subst (λ (x : List Held). AreCounted k.counted (x ++ k.last ∷ []) k.amount k.incomplete)
    split k.right)
    (omega (arith, c.if-rest-from.true, c.from.ensures, c.from-in-Some.ensures))))

none_by : (n : ℕ) → (0 < n → false ≡ true) → n ≡ 0
none_by zero h = refl
none_by (suc n) h = let e = h (omega arith) in absurd (cc)

pub returns-clause-few : goal.returns-clause-few
returns-clause-few c =
    let k = c.loop-first.self in
    few_only c.args.self.now.counted k.full.items k.last c.args.count
    (none_by (length k.full.items)
    (λ some. c.in_default.ensures.variant.1 (omega (arith, some, k.full.ok))))
