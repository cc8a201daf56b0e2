-- A front of outputs, name by name.
use Rattle.std.proofs.Common.{◌≡◌, ◌≢◌, ◌⊎◌, inl, inr, ⊎_elim, ℕ, zero, suc, List, [], ◌∷◌, take, get_or, sym, ◌∙◌, arith}
use Rattle.std.specs.Prelude.{All}
use Rattle.std.proofs.lemmas.List.Elements.{All-cons, All-take}
use Rattle.folders.specs.inner.Folder.{View}
use Rattle.folders.specs.inner.Fronts.{FrontsAreOldOrWhole}
use Rattle.folders.specs.inner.Outputs.{AreApart, IsNoNew, IsNoPlace, placed, renamed}
use Rattle.folders.specs.declared.output.Output.{Output}
use Rattle.folders.proofs.lemmas.Names.{all_head, all_tail, placed_other, renamed_to, renamed_other}

abbrev OldOrWhole : View → View → Output → Type 0
OldOrWhole view found o = (found o.place ≡ view o.place) ⊎ (found o.place ≡ view o.new)

-- the places of the others do not see the rename of the first
after_first : (o : Output) (os : List Output) (view found : View) → IsNoNew os o.new → IsNoPlace os o.new → IsNoNew os o.place → IsNoPlace os o.place
    → All (OldOrWhole (renamed o.new o.place view) found) os → All (OldOrWhole view found) os
after_first o os view found nn np pn pp all = λ k d within. ⊎_elim
    (λ old. inl (old ∙ renamed_other o.new o.place _ view (λ e. np k d within (sym e)) (λ e. pp k d within (sym e))))
    (λ whole. inr (whole ∙ renamed_other o.new o.place _ view (λ e. nn k d within (sym e)) (λ e. pn k d within (sym e))))
    (all k d within)

-- here all names are looked at that are the places of these outputs
places_at : (k : ℕ) (os : List Output) → AreApart os → (view found : View)
    → All (λ o. found o.place ≡ placed (take k os) view o.place) os → All (OldOrWhole view found) os
places_at zero os apart view found same = λ k d within. inl (same k d within)
places_at (suc k) [] apart view found same = λ i d within. absurd (omega (arith, within))
places_at (suc k) (o ∷ os) apart view found same = All-cons (OldOrWhole view found) o os
    (inr (all_head (λ p. found p.place ≡ placed (take (suc k) (o ∷ os)) view p.place) o os same
    ∙ placed_other (take k os) o.place (renamed o.new o.place view) (All-take (λ p. o.place ≢ p.new) k os apart.2.0) (All-take (λ p. o.place ≢ p.place) k os apart.2.1)
    ∙ renamed_to o.new o.place view))
    (after_first o os view found apart.1.0 apart.1.1 apart.2.0 apart.2.1
    (places_at k os apart.3 (renamed o.new o.place view) found (all_tail (λ p. found p.place ≡ placed (take (suc k) (o ∷ os)) view p.place) o os same)))

-- the place of one of them is no new name
no_new : (os : List Output) → AreApart os → All (λ o. IsNoNew os o.place) os
no_new [] apart = λ i d within. absurd (omega (arith, within))
no_new (o ∷ os) apart = All-cons (λ p. IsNoNew (o ∷ os) p.place) o os
    (All-cons (λ p. o.place ≢ p.new) o os (λ e. apart.0 (sym e)) apart.2.0)
    (λ k d within. All-cons (λ p. (get_or os k d).place ≢ p.new) o os (λ e. apart.1.1 k d within (sym e)) (no_new os apart.3 k d within))

pub fronts : FrontsAreOldOrWhole
fronts os apart view found front = record {
  places = places_at front.0 os apart view found (λ k d within. front.1 _ (no_new os apart k d within));
  others = λ n none no_place. front.1 n none
      ∙ placed_other (take front.0 os) n view (All-take (λ o. n ≢ o.new) front.0 os none) (All-take (λ o. n ≢ o.place) front.0 os no_place);
}
