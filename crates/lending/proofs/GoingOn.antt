-- Stages that go on.
use Rattle.std.proofs.Common.{List, [], ◌∷◌, ◌++◌, refl, sym, ap, ◌∙◌}
use Rattle.std.specs.List.{AllZip}
use Rattle.machine.specs.Law.{Shown}
use Rattle.bounded_pipe.specs.Ends.{WritesOn, ReadsOn}
use Rattle.bounded_pipe.proofs.Records.{writes_on_transitive, reads_on_transitive}
use Rattle.stages.specs.inner.Staged.{Staged}
use Rattle.stages.proofs.Lists.{zip_refl, zip_trans}
use Rattle.lending.specs.inner.Loans.{GoesOn, Grouped, GroupGoesOn}
use Rattle.networks.proofs.ActLaws.{writes_on_refl, reads_on_refl}

module _ {M : Type 0} (shows : M → Shown) where
  -- a stage that does nothing goes on
  pub goes_refl : (t : Staged M) → GoesOn shows t t
  goes_refl t = record {
    reads = record { pipes = refl; ends = zip_refl ReadsOn reads_on_refl t.inlet.ends };
    writes = record {
      pipes = refl;
      block = refl;
      ends =
          zip_refl WritesOn writes_on_refl t.outlet.ends;
    };
    case = λ answer h. h;
    stays = λ halted. refl;
  }

  -- a stage that goes on, and then goes on
  pub goes_trans : (a b c : Staged M) → GoesOn shows a b → GoesOn shows b c → GoesOn shows a c
  goes_trans a b c s t =
      let r = s.reads in
      let w = s.writes in
      let q = t.reads in
      let v = t.writes in
      record {
        reads = record {
          pipes = q.pipes ∙ r.pipes;
          ends =
              zip_trans ReadsOn ReadsOn ReadsOn reads_on_transitive a.inlet.ends b.inlet.ends
              c.inlet.ends r.ends q.ends;
        };
        writes = record {
          pipes = v.pipes ∙ w.pipes;
          block = v.block
              ∙ w.block;
          ends =
              zip_trans WritesOn WritesOn WritesOn writes_on_transitive a.outlet.ends b.outlet.ends
              c.outlet.ends w.ends v.ends;
        };
        case = λ answer h. t.case answer (s.case answer h);
        stays = λ halted. let e = s.stays halted in
            t.stays (λ runs. halted (sym (ap (λ (x : Staged M). x.state) e) ∙ runs)) ∙ e;
      }

  -- each of some stages that do nothing
  pub each_goes_refl : (xs : List (Staged M)) → AllZip (GoesOn shows) xs xs
  each_goes_refl xs = zip_refl (GoesOn shows) goes_refl xs

  -- ---- groups

  -- a group that does nothing goes on
  pub group_refl : (a : Grouped M) → GroupGoesOn shows a a
  group_refl a = record { places = refl; stages = each_goes_refl a.stages }

  -- a group that goes on, and then goes on
  pub group_trans : (a b c : Grouped M) → GroupGoesOn shows a b → GroupGoesOn shows b c
      → GroupGoesOn shows a c
  group_trans a b c p q = record {
    places = q.places ∙ p.places;
    stages = zip_trans (GoesOn shows) (GoesOn shows)
        (GoesOn shows) goes_trans a.stages b.stages c.stages p.stages q.stages;
  }

  -- one group more
  pub groups_more : (xs ys : List (Grouped M)) (x y : Grouped M) → AllZip (GroupGoesOn shows) xs ys
      → GroupGoesOn shows x y → AllZip (GroupGoesOn shows) (xs ++ x ∷ []) (ys ++ y ∷ [])
  groups_more [] [] x y all one = (one, tt)
  groups_more (a ∷ xs) (b ∷ ys) x y all one = (all.0, groups_more xs ys x y all.1 one)
  groups_more _ _ x y all one = absurd all
