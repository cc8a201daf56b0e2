-- What has been done when a loop that renames outputs has come so far.
use Rattle.std.proofs.Common.{◌≡◌, ◌≢◌, inl, inr, ⊎_elim, ◌⊎◌, ℕ, ◌+◌, List, take, Option, Some, refl, sym, ◌∙◌, ap, arith}
use Rattle.std.specs.Prelude.{slice_get}
use Rattle.folders.specs.inner.Folder.{View, FolderShown, CountsMoments, IsElsewhere, Looks, Loses, IsStored, Renames, MayRename, ShowsOnly}
use Rattle.folders.specs.inner.Outputs.{IsNoNew, IsNoPlace, AreApart, IsFront, placed, renamed, AllFiles, AllStored, AllKept, IsOldOrWhole, LosesNothing}
use Rattle.folders.specs.declared.output.Output.{Output}
use Rattle.folders.proofs.Lists.{all_at, all_more, any_at}
use Rattle.folders.proofs.Moments.{started, goes_on}
use Rattle.folders.proofs.lemmas.Names.{name_cases, renamed_is, placed_other, placed_more, own_apart, new_apart, new_before, place_before}

-- this many of them are in their places
pub record RenamedSoFar (os : List Output) (i : ℕ) (s0 s : FolderShown) : Type 0 where
  pub seen : s.seen ≡ placed (take i os) s0.seen
  pub files : AllFiles (take i os) s0.seen
  pub looks : ShowsOnly (IsFront os s0.seen) s0 s
  pub failures : s.failures ≡ s0.failures
  pub bytes : (n b : List ℕ) → IsNoPlace os n → s.bytes_of n b → s0.bytes_of n b
  pub kept : AllStored os s0 → AllKept (take i os) s0.seen s
  pub loses : AllStored os s0 → LosesNothing os s0 s

pub renamed_none : (os : List Output) (s : FolderShown) → CountsMoments s → RenamedSoFar os 0 s s
renamed_none os s counts = record {
  seen = refl;
  files = λ k d within. absurd (omega (arith, within));
  looks = started (λ found left. (0, λ n none. counts.only_seen found left n));
  failures = refl;
  bytes = λ n b none now. now;
  kept = λ given k d within. absurd (omega (arith, within));
  loses = λ given. record {
    power = λ n none. started (λ c left. inl (counts.only_left n c left));
    may = λ n c none now. inl now;
  };
}

-- what a power loss leaves after the rename of a file whose bytes are stored
after_rename : {from to : List ℕ} {s s' : FolderShown} → IsStored from s → MayRename from to s s'
    → (n : List ℕ) → n ≢ from → (c : Option (List ℕ)) → s'.may_hold n c → s.may_hold n c ⊎ ((n ≡ to) × (c ≡ s.seen from))
after_rename {from} {to} {s} {s'} stored step n apart c now = ⊎_elim
    (λ here. ⊎_elim
    (λ was. inl (subst_may s (sym here) c was))
    (λ new. inr (here, new.2 ∙ ap Some (stored.2 new.0 new.1) ∙ sym stored.1))
    (step.to_may c (subst_may s' here c now)))
    (λ there. inl (step.may n c apart there now))
    (name_cases n to)
  where
    subst_may : (f : FolderShown) {a b : List ℕ} → a ≡ b → (c : Option (List ℕ)) → f.may_hold a c → f.may_hold b c
    subst_may f e c held = Rattle.std.proofs.Common.subst (λ (m : List ℕ). f.may_hold m c) e held

module _ (os : List Output) (i : ℕ) (o : Output) (s0 s s' : FolderShown) (at : slice_get os i ≡ Some o) (apart : AreApart os) (so_far : RenamedSoFar os i s0 s) where
  -- its new file is as it was
  seen_new : s.seen o.new ≡ s0.seen o.new
  seen_new =
      let before = new_before os i o at apart in
      ap (λ (v : View). v o.new) so_far.seen ∙ placed_other (take i os) o.new s0.seen before.new before.place

  still_stored : AllStored os s0 → IsStored o.new s
  still_stored given =
      let was = all_at (λ p. IsStored p.new s0) os i o at given in
      (was.0, seen_new ∙ was.1, λ b now. was.2 b (so_far.bytes o.new b (new_apart os i o at apart) now))

  -- whether it was renamed or not
  pub lose_more : MayRename o.new o.place s s' → Loses s s' → AllStored os s0 → LosesNothing os s0 s'
  lose_more may loses given =
      let step : (n : List ℕ) (c : Option (List ℕ)) → IsNoNew os n → s'.may_hold n c → IsOldOrWhole os s0 n c = λ n c none now. ⊎_elim
      (λ was. (so_far.loses given).may n c none was)
      (λ new. inr (any_at (λ p. (n ≡ p.place) × (c ≡ s0.seen p.new)) os i o at (new.0, new.1 ∙ seen_new)))
      (after_rename (still_stored given) may n (all_at (λ p. n ≢ p.new) os i o at none) c now) in record {
        power = λ n none. goes_on ((so_far.loses given).power n none) (loses n) (λ c now. step n c none now);
        may = λ n c none now. step n c none now;
      }

  pub bytes_more : MayRename o.new o.place s s' → (n b : List ℕ) → IsNoPlace os n → s'.bytes_of n b → s0.bytes_of n b
  bytes_more may n b none now = so_far.bytes n b none (may.bytes n b (all_at (λ p. n ≢ p.place) os i o at none) now)

  pub seen_more : Renames o.new o.place s s' → s'.seen ≡ placed (take (i + 1) os) s0.seen
  seen_more r =
      renamed_is o.new o.place s s' (own_apart os i o at apart) r ∙ ap (renamed o.new o.place) so_far.seen ∙ sym (placed_more os i o s0.seen at)

  kept_more : Renames o.new o.place s s' → MayRename o.new o.place s s' → AllStored os s0 → AllKept (take (i + 1) os) s0.seen s'
  kept_more r may given =
      let before = place_before os i o at apart in
      let was = all_at (λ p. IsStored p.new s0) os i o at given in
      all_more (λ p. (b : List ℕ) → s'.bytes_of p.place b → s0.seen p.new ≡ Some b) os i o at
      (λ k d within b now. so_far.kept given k d within b (may.bytes _ b (λ e. before.place k d within (sym e)) now))
      (λ b now. was.1 ∙ ap Some (sym (was.2 b (so_far.bytes o.new b (new_apart os i o at apart) (r.bytes b now)))))

  pub renamed_more : Renames o.new o.place s s' → MayRename o.new o.place s s' → Looks (IsElsewhere o.new s'.seen) s s' → Loses s s'
      → s'.failures ≡ s.failures → RenamedSoFar os (i + 1) s0 s'
  renamed_more r may looks loses failures = record {
    seen = seen_more r;
    files = all_more (λ p. (b : List ℕ) × (s0.seen p.new ≡ Some b)) os i o at so_far.files (r.whole.0, sym seen_new ∙ r.whole.1);
    looks = goes_on so_far.looks looks (λ found here.
        (i + 1, λ n none. here n (all_at (λ p. n ≢ p.new) os i o at none) ∙ ap (λ (v : View). v n) (seen_more r)));
    failures = failures ∙ so_far.failures;
    bytes = bytes_more may;
    kept = kept_more r may;
    loses = lose_more may loses;
  }

  -- the rename failed, but may have been done
  pub either_front : ((n : List ℕ) → s'.seen n ≡ s.seen n) ⊎ Renames o.new o.place s s'
      → ((n : List ℕ) → s'.seen n ≡ placed (take i os) s0.seen n) ⊎ ((n : List ℕ) → s'.seen n ≡ placed (take (i + 1) os) s0.seen n)
  either_front either = ⊎_elim
      (λ same. inl (λ n. same n ∙ ap (λ (v : View). v n) so_far.seen))
      (λ r. inr (λ n. ap (λ (v : View). v n) (seen_more r)))
      either

  pub look_more : ((n : List ℕ) → s'.seen n ≡ s.seen n) ⊎ Renames o.new o.place s s' → Looks (IsElsewhere o.new s'.seen) s s' → ShowsOnly (IsFront os s0.seen) s0 s'
  look_more either looks = goes_on so_far.looks looks (λ found here. ⊎_elim
      (λ front. (i, λ n none. here n (all_at (λ p. n ≢ p.new) os i o at none) ∙ front n))
      (λ front. (i + 1, λ n none. here n (all_at (λ p. n ≢ p.new) os i o at none) ∙ front n))
      (either_front either))
