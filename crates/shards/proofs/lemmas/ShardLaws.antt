-- Two texts that write what the divided filters of a chain write are its shards.
use Rattle.std.proofs.Common.{◌≡◌, ℕ, true, List, [], ◌∷◌, map, None, refl, ap, ap₂}
use Rattle.std.proofs.Common.{◌∙◌, sym}
use Rattle.std.specs.List.{concat}
use Rattle.commands.specs.declared.spec.FilterSpec.{FilterSpec}
use Rattle.part_laws.specs.Divisions.{Halves, halves, made_by, needs_whole}
use Rattle.part_laws.specs.Laws.{FiltersDivide}
use Rattle.part_laws.specs.Parts.{AreCutAtLines}
use Rattle.planner.specs.Planned.{Planned}
use Rattle.planner.specs.declared.plan.Node.{Node}
use Rattle.run_types.specs.declared.names.InName.{InName}
use Rattle.run_types.specs.declared.names.InName.TheVariants as input
use Rattle.run_types.specs.declared.names.OutName.{OutName}
use Rattle.run_types.specs.declared.names.OutName.TheVariants as output
use Rattle.shards.specs.Chains.{IsChain, chained, filters_of, output_for}
use Rattle.shards.specs.Shards.{AreShards, GivesSameBytes}
use Rattle.shards.specs.declared.division.Division.{Division}
use Rattle.shards.specs.inner.Places.{divide, each_in, joined_in}
use Rattle.shards.specs.inner.Written.{Writes}
use Rattle.shards.proofs.lemmas.ChainLaws.{output_is, status_is}
use Rattle.shards.proofs.lemmas.PlaceLaws.{each_half, joined_half}

-- the same is made of each part
each_alike : (f g : List ℕ → List ℕ) (parts : List (List ℕ)) → ((x : List ℕ) → f x ≡ g x)
    → map f parts ≡ map g parts
each_alike f g [] same = refl
each_alike f g (x ∷ parts) same = ap₂ (λ (y : List ℕ) (ys : List (List ℕ)). y ∷ ys) (same x)
    (each_alike f g parts same)

module _ (plan : Planned) (from : InName) (to : OutName) (stages : List Node)
    (c : IsChain plan from (filters_of stages) to)
    (in_turn : stages ≡ chained 0 (filters_of stages)) where
  abbrev fs : List FilterSpec
  fs = filters_of stages

  abbrev h : Halves
  h = halves true fs

  module _ (law : FiltersDivide) (some : needs_whole fs ≡ None) (there : Division)
      (is : there ≡ divide true fs) (map_text combine_text : List ℕ)
      (m : Writes map_text (each_in there stages) output.Standard)
      (j : Writes combine_text (joined_in there stages) to) where
    each_is : (x : List ℕ) → output_for m.plan x ≡ made_by h.each x
    each_is x = output_is m.plan input.Standard m.own output.Standard m.chain x
        ∙ (m.same x ∙ ap (λ (l : List FilterSpec). made_by l x)
        (ap (λ (d : Division). each_in d stages) is ∙ each_half stages in_turn))

    joined_is : (x : List ℕ) → output_for j.plan x ≡ made_by h.joined x
    joined_is x = output_is j.plan input.Standard j.own to j.chain x
        ∙ (j.same x ∙ ap (λ (l : List FilterSpec). made_by l x)
        (ap (λ (d : Division). joined_in d stages) is ∙ joined_half stages in_turn))

    bytes_are : (parts : List (List ℕ)) → AreCutAtLines parts
        → output_for plan (concat parts) ≡ output_for j.plan
        (concat (map (output_for m.plan) parts))
    bytes_are parts cut =
        output_is plan from fs to c (concat parts)
        ∙ (law.same fs parts cut
        ∙ (ap (λ (ys : List (List ℕ)). made_by h.joined (concat ys))
        (sym (each_alike (output_for m.plan) (made_by h.each) parts each_is))
        ∙ sym (joined_is (concat (map (output_for m.plan) parts)))))

    same_bytes : GivesSameBytes plan m.plan j.plan
    same_bytes = record {
      bytes = bytes_are;
      status = λ x. status_is plan from fs to c x;
      status_each = λ x. status_is m.plan input.Standard m.own output.Standard m.chain x;
      status_joined = λ x. status_is j.plan input.Standard j.own to j.chain x;
    }

    pub are_shards : AreShards plan map_text combine_text
    are_shards = record {
      from = from;
      to = to;
      filters = fs;
      chain = c;
      each = m.plan;
      each_is = m.has_plan;
      each_leads = (m.own, m.chain);
      joined = j.plan;
      joined_is = j.has_plan;
      joined_leads = (j.own, j.chain);
      same = same_bytes;
      divided = record {
        first = each_is;
        later = joined_is;
        longest = law.longest fs;
        some = some;
      };
    }
