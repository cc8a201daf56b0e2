-- The stages of commands, one after another, and the first command that means nothing.
use Rattle.std.proofs.Common.{◌≡◌, ℕ, zero, suc, ◌+◌, ◌-◌, ◌<◌, Bool, false, nat_eq, drop, get_or}
use Rattle.std.proofs.Common.{List, [], ◌∷◌, ◌++◌, length, Option, Some, None, Err, refl, sym, ap}
use Rattle.std.proofs.Common.{◌∙◌, subst, arith}
use Rattle.std.proofs.lemmas.Bool.{ne_eqb}
use Rattle.std.proofs.lemmas.List.{append_assoc, append-nil, length-append, length-drop, drop_more}
use Rattle.command_words.specs.Texts.{◌>>=◌}
use Rattle.command_words.specs.declared.fault.ArgFault.TheVariants as arg
use Rattle.pipeline_text.specs.declared.script.Cmd.{Cmd}
use Rattle.commands.specs.Filters.{filter_means, is_nothing}
use Rattle.commands.specs.declared.spec.FilterSpec.{FilterSpec}
use Rattle.planner.specs.declared.fault.PlanFault.{PlanFault}
use Rattle.planner.specs.declared.fault.PlanFault.TheVariants as fault
use Rattle.planner.specs.Places.{Stage}
use Rattle.planner.specs.inner.Reads.{IsArgFault, ReadsOne}
use Rattle.planner.specs.Stages.{PlacedCommand, placed_in, stage_of, stage_with, stages_of}
use Rattle.planner.specs.Stages.{IsFirstMeaningless}

-- the first stage and the others
pub record AreStages (c : PlacedCommand) (cs : List PlacedCommand) (ss : List Stage) : Type 0 where
  pub first : Stage
  pub others : List Stage
  pub first_means : stage_of c ≡ Some first
  pub others_mean : stages_of cs ≡ Some others
  pub are : ss ≡ first ∷ others

pub stages_apart : (c : PlacedCommand) (cs : List PlacedCommand) (ss : List Stage)
    → stages_of (c ∷ cs) ≡ Some ss → AreStages c cs ss
stages_apart c cs ss e = go (stage_of c) refl (stages_of cs) refl
  where
    go : (o : Option Stage) → stage_of c ≡ o → (p : Option (List Stage)) → stages_of cs ≡ p
        → AreStages c cs ss
    go None a p b =
        absurd (cc (sym e
        ∙ ap (λ q. q >>= λ (s : Stage). stages_of cs >>= λ (us : List Stage). Some (s ∷ us)) a))
    go (Some s) a None b =
        absurd (cc (sym e
        ∙ (ap (λ q. q >>= λ (s : Stage). stages_of cs >>= λ (us : List Stage). Some (s ∷ us)) a
        ∙ ap (λ q. q >>= λ (us : List Stage). Some (s ∷ us)) b)))
    go (Some s) a (Some us) b =
        let whole : Some (s ∷ us) ≡ Some ss =
        sym
        (ap (λ q. q >>= λ (s : Stage). stages_of cs >>= λ (us : List Stage). Some (s ∷ us)) a
        ∙ ap (λ q. q >>= λ (us : List Stage). Some (s ∷ us)) b) ∙ e in
        record { first = s; others = us; first_means = a; others_mean = b; are = sym (cc whole) }

pub stages_together : (c : PlacedCommand) (cs : List PlacedCommand) (s : Stage) (us : List Stage)
    → stage_of c ≡ Some s → stages_of cs ≡ Some us → stages_of (c ∷ cs) ≡ Some (s ∷ us)
stages_together c cs s us a b =
    ap (λ q. q >>= λ (s : Stage). stages_of cs >>= λ (us : List Stage). Some (s ∷ us)) a
    ∙ ap (λ q. q >>= λ (us : List Stage). Some (s ∷ us)) b

-- the stages of two lists of commands
pub stages_append : (cs ds : List PlacedCommand) (ss ts : List Stage) → stages_of cs ≡ Some ss
    → stages_of ds ≡ Some ts → stages_of (cs ++ ds) ≡ Some (ss ++ ts)
stages_append [] ds ss ts e f =
    let n : [] ≡ ss = cc e in
    f ∙ ap (λ (us : List Stage). Some (us ++ ts)) n
stages_append (c ∷ cs) ds ss ts e f =
    let a = stages_apart c cs ss e in
    stages_together c (cs ++ ds) a.first (a.others ++ ts) a.first_means
    (stages_append cs ds a.others ts a.others_mean f)
    ∙ ap (λ (us : List Stage). Some (us ++ ts)) (sym a.are)

-- as many stages as commands
pub stages_count : (cs : List PlacedCommand) (ss : List Stage) → stages_of cs ≡ Some ss
    → length ss ≡ length cs
stages_count [] ss e = let n : ss ≡ [] = cc e in ap (λ (us : List Stage). length us) n
stages_count (c ∷ cs) ss e =
    let a = stages_apart c cs ss e in
    ap (λ (us : List Stage). length us) a.are ∙ ap suc (stages_count cs a.others a.others_mean)

-- a command with a stage means something
pub stage_means : (c : PlacedCommand) (s : Stage) → stage_of c ≡ Some s
    → (filter : FilterSpec) × (filter_means c.command.words ≡ Some filter)
stage_means c s e = go (filter_means c.command.words) refl
  where
    go : (o : Option FilterSpec) → filter_means c.command.words ≡ o
        → (filter : FilterSpec) × (filter_means c.command.words ≡ Some filter)
    go None a =
        absurd (cc (sym e ∙ ap (λ q. q >>= λ (filter : FilterSpec). Some (stage_with c filter)) a))
    go (Some filter) a = (filter, a)

-- the first that means nothing, after commands that have stages
pub meaningless_behind : (cs ds : List PlacedCommand) (ss : List Stage) (i : ℕ)
    → stages_of cs ≡ Some ss → IsFirstMeaningless ds i
    → IsFirstMeaningless (cs ++ ds) (length cs + i)
meaningless_behind [] ds ss i e m =
    let z : i ≡ 0 + i = omega arith in
    subst (λ k. IsFirstMeaningless ds k) z m
meaningless_behind (c ∷ cs) ds ss i e m =
    let a = stages_apart c cs ss e in
    let z : suc (length cs + i) ≡ suc (length cs) + i = omega arith in
    subst (λ k. IsFirstMeaningless (c ∷ cs ++ ds) k) z
    (stage_means c a.first a.first_means, meaningless_behind cs ds a.others i a.others_mean m)

-- and before more commands
pub meaningless_front : (cs ds : List PlacedCommand) (i : ℕ) → IsFirstMeaningless cs i
    → IsFirstMeaningless (cs ++ ds) i
meaningless_front [] ds i m = absurd m
meaningless_front (c ∷ cs) ds zero m = m
meaningless_front (c ∷ cs) ds (suc i) m = (m.0, meaningless_front cs ds i m.1)

-- Commands, some of which have been read, and the rest.
pub record AreRead (whole rest : List PlacedCommand) (old now : List Stage) : Type 0 where
  pub done : List PlacedCommand
  pub splits : whole ≡ done ++ rest
  pub ss : List Stage
  pub means : stages_of done ≡ Some ss
  pub added : now ≡ old ++ ss

pub none_read : (whole : List PlacedCommand) (old : List Stage) → AreRead whole whole old old
none_read whole old = record {
  done = [];
  splits = refl;
  ss = [];
  means = refl;
  added =
      sym (append-nil old);
}

-- more of them are read
pub more_read : (whole cs rest : List PlacedCommand) (old now new ts : List Stage)
    → AreRead whole (cs ++ rest) old now → stages_of cs ≡ Some ts → new ≡ now ++ ts
    → AreRead whole rest old new
more_read whole cs rest old now new ts r m e = record {
  done = r.done ++ cs;
  splits = r.splits ∙ sym (append_assoc r.done cs rest);
  ss = r.ss ++ ts;
  means = stages_append r.done cs r.ss ts r.means m;
  added = e ∙ (ap (λ (us : List Stage). us ++ ts) r.added ∙ append_assoc old r.ss ts);
}

-- all of them
pub all_read : (whole : List PlacedCommand) (old now : List Stage) → AreRead whole [] old now
    → (ss : List Stage) × (stages_of whole ≡ Some ss) × (now ≡ old ++ ss)
all_read whole old now r = (r.ss, ap stages_of (r.splits ∙ append-nil r.done) ∙ r.means, r.added)

-- how many were read
pub read_count : (whole rest : List PlacedCommand) (old now : List Stage)
    (r : AreRead whole rest old now) → length now ≡ length old + length r.done
read_count whole rest old now r = ap (λ (us : List Stage). length us) r.added
    ∙ (length-append old r.ss ∙ ap (λ n. length old + n) (stages_count r.done r.ss r.means))

-- the first of the next ones that means nothing
pub refused_at : (whole cs rest : List PlacedCommand) (old now : List Stage) (i : ℕ)
    → AreRead whole (cs ++ rest) old now → IsFirstMeaningless cs i
    → (k : ℕ) × (length now + i ≡ length old + k) × IsFirstMeaningless whole k
refused_at whole cs rest old now i r m =
    let n = read_count whole (cs ++ rest) old now r in (
      length r.done + i,
      omega (arith, n),
      subst (λ (ds : List PlacedCommand). IsFirstMeaningless ds (length r.done + i))
          (sym r.splits) (meaningless_behind r.done (cs ++ rest) r.ss i r.means
          (meaningless_front cs rest i m)),
    )

-- whether nothing is left, by how much there was
nothing_left : {A : Type 0} (xs : List A) → is_nothing xs ≡ nat_eq (suc (length xs)) 1
nothing_left [] = refl
nothing_left (x ∷ xs) = sym (ne_eqb (suc (suc (length xs))) 1 (λ h. absurd (omega (arith, h))))

-- the command of a pipeline that has this place, before the others
pub placed_step : (n i : ℕ) (background : Bool) (cs : List Cmd) (c : Cmd) → i < length cs
    → c ≡ get_or cs i c
    → placed_in (n + i) background (nat_eq i 0) (drop i cs)
    ≡ record {
      index = n + i;
      background = background;
      is_first = nat_eq i 0;
      is_last =
          nat_eq (length cs - i) 1;
      command = c;
    } ∷ placed_in (n + (i + 1)) background
    (nat_eq (i + 1) 0) (drop (i + 1) cs)
placed_step n i background cs c lt is =
    let rest = drop (i + 1) cs in
    let next : drop i cs ≡ c ∷ rest = drop_more cs i c lt ∙ ap (λ d. d ∷ rest) (sym is) in
    let count = length-drop (i + 1) cs in
    let left : suc (length rest) ≡ length cs - i = omega (arith, count) in
    let last : is_nothing rest ≡ nat_eq (length cs - i) 1 = nothing_left rest
    ∙ ap (λ k. nat_eq k 1) left in
    let one : suc (n + i) ≡ n + (i + 1) = omega arith in
    let later : false ≡ nat_eq (i + 1) 0 =
    sym (ne_eqb (i + 1) 0 (λ h. absurd (omega (arith, h)))) in
    let here : Bool → PlacedCommand =
    λ l. record {
      index = n + i;
      background = background;
      is_first = nat_eq i 0;
      is_last =
          l;
      command = c;
    } in
    ap (λ ds. placed_in (n + i) background (nat_eq i 0) ds) next
    ∙ (ap (λ l. here l ∷ placed_in (suc (n + i)) background false rest) last
    ∙ (ap (λ k. here (nat_eq (length cs - i) 1) ∷ placed_in k background false rest) one
    ∙ ap (λ f. here (nat_eq (length cs - i) 1) ∷ placed_in (n + (i + 1)) background f rest) later))

-- one more command is read
pub one_read : (whole rest : List PlacedCommand) (c : PlacedCommand) (old now new : List Stage)
    (s : Stage) → AreRead whole (c ∷ rest) old now → stage_of c ≡ Some s → new ≡ now ++ s ∷ []
    → AreRead whole rest old new
one_read whole rest c old now new s r m e =
    more_read whole (c ∷ []) rest old now new (s ∷ []) r (stages_together c [] s [] m refl) e

-- the next command means nothing, or some of the next ones do
module _ (whole cs rest : List PlacedCommand) (old now : List Stage)
    (r : AreRead whole (cs ++ rest) old now) where
  named : (stage : ℕ) → (i : ℕ) × (stage ≡ suc (length now + i)) × IsFirstMeaningless cs i
      → (k : ℕ) × (stage ≡ suc (length old + k)) × IsFirstMeaningless whole k
  named stage (i, e, m) =
      let k = refused_at whole cs rest old now i r m in
      let l = k.1 in
      (k.0, omega (arith, e, l), k.2)

  pub refused_more : (f : PlanFault) → IsArgFault (length now) cs f
      → IsArgFault (length old) whole f
  refused_more fault.NoMemory m = tt
  refused_more (fault.Arg stage arg.NoMemory) m = tt
  refused_more (fault.Arg stage _) m = named stage m
  refused_more _ m = absurd m

pub refused_one : (c : PlacedCommand) (n : ℕ) → n ≡ c.index → (f : PlanFault) → ReadsOne c (Err f)
    → IsArgFault n (c ∷ []) f
refused_one c n e fault.NoMemory m = tt
refused_one c n e (fault.Arg stage arg.NoMemory) m = tt
refused_one c n e (fault.Arg stage _) (s, m) = (0, omega (arith, s, e), m)
refused_one c n e _ m = absurd m

-- a pipeline has as many commands as it has
pub placed_count : (n : ℕ) (background first : Bool) (cs : List Cmd)
    → length (placed_in n background first cs) ≡ length cs
placed_count n background first [] = refl
placed_count n background first (c ∷ cs) = ap suc (placed_count (suc n) background false cs)
