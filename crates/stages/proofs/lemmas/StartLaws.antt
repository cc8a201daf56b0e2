-- A new stage.
use Rattle.std.proofs.Common.{◌≡◌, ℕ, zero, suc, ◌≤◌, Bool, false, List, [], ◌∷◌, ◌++◌, length}
use Rattle.std.proofs.Common.{replicate, refl, sym, ap, ◌∙◌, subst, subst₂, arith, Option, None}
use Rattle.std.proofs.lemmas.Bool.{false≢true}
use Rattle.std.specs.List.{All, AllZip, AllByRecursion, concat}
use Rattle.machine.specs.Pieces.{IsPieceLong}
use Rattle.machine.specs.Law.{Shown, IsLawful, IsNew}
use Rattle.machine.specs.Makes.{after}
use Rattle.machine.specs.Whole.{inputs_of, WholeAnswer}
use Rattle.machine.proofs.MakesLaws.{fun_ext}
use Rattle.machine.specs.Items.{bytes_of, has_close, IsTidy}
use Rattle.machine.specs.declared.piece.Item.{Item}
use Rattle.machine.specs.declared.protocol.Presence.{Presence}
use Rattle.bounded_pipe.specs.Ends.{Writing, Reading}
use Rattle.splice_tee.specs.declared.branches.Served.TheVariants.{Lacks}
use Rattle.stages.specs.Stages.{BranchKeeps, FrontIs, taken_on}
use Rattle.stages.specs.Inlets.{Taking, IsNewReading, IsNewInlet}
use Rattle.stages.specs.Outlets.{Putting, IsNewWriting, IsNewOutlet}
use Rattle.stages.specs.Cases.{CaseOf}
use Rattle.run_types.specs.declared.node_state.NodeState.TheVariants.{Running}

nothing_on : (rs : List Reading) (j : ℕ) → AllByRecursion IsNewReading rs → taken_on rs j ≡ []
nothing_on [] j a = refl
nothing_on (r ∷ rs) zero a = a.0.0
nothing_on (r ∷ rs) (suc j) a = nothing_on rs j a.1

new_branches : (block : ℕ) (ws : List Writing) → AllByRecursion IsNewWriting ws
    → AllZip (BranchKeeps block [] None []) ws (replicate (length ws) Lacks)
new_branches block [] a = tt
new_branches block (w ∷ ws) a =
    let h = a.0 in (
      record {
        bytes = ap (λ l. bytes_of l ++ []) h.0;
        noted = h.1;
        close = ap has_close h.0;
        tidy =
            subst (λ l. IsTidy block l) (sym h.0) tt;
      },
      new_branches block ws a.1,
    )

none_hung : (b : Bool) (rs : List Reading) → b ≡ false → AllByRecursion IsNewReading rs
    → AllByRecursion (λ r. r.hung_up ≡ b) rs
none_hung b [] e a = tt
none_hung b (r ∷ rs) e a = (a.0.1 ∙ sym e, none_hung b rs e a.1)

pub case_new : (whole : WholeAnswer) (presence : List Presence) (m : Shown) (i : Taking)
    (o : Putting) → IsLawful m → m.inputs ≡ length i.ends → IsNew m whole presence → IsNewInlet i
    → IsNewOutlet o → CaseOf (λ ys. whole (inputs_of presence ys)) Running m i o
case_new whole presence m i o lawful inputs fresh new_in new_out =
    let nothing : (ys : ℕ → List ℕ) → after (λ j. bytes_of (taken_on i.ends j)) ys ≡ ys =
    λ ys. fun_ext (λ j. ap (λ l. bytes_of l ++ ys j) (nothing_on i.ends j new_in.ends)) in
    record {
      made = [];
      makes =
          record {
            splits = λ ys h. ap (λ (x : ℕ → List ℕ). (whole (inputs_of presence x)).out)
                (nothing ys) ∙ sym (fresh.rest ys);
            counts =
                λ ys h. subst (λ (x : ℕ → List ℕ). m.most ys ≤ (whole (inputs_of presence x)).count)
                (sym (nothing ys)) (fresh.most ys);
            closed = λ j. fresh.unclosed j ∙ sym (ap has_close (nothing_on i.ends j new_in.ends));
          };
      lawful = lawful;
      inputs = inputs;
      branches =
          subst₂ (λ (f : Option Item) (q : List (List ℕ)). AllZip
          (BranchKeeps o.block [] f (concat q)) o.ends o.served) (sym new_out.front)
          (sym new_out.owed)
          (subst (λ l. AllZip (BranchKeeps o.block [] None []) o.ends l) (sym new_out.served)
          (new_branches o.block o.ends new_out.ends));
      front = subst (λ (f : Option Item). FrontIs o.block m.wanted o.owed f) (sym new_out.front) tt;
      owed = subst (λ (l : List (List ℕ)). All (IsPieceLong o.block) l) (sym new_out.owed)
          (λ k d l. absurd (omega (arith, l)));
      together = none_hung i.hung_up i.ends new_in.hung_up new_in.ends;
      hung_up = λ e. absurd (false≢true (sym new_in.hung_up ∙ e));
    }
