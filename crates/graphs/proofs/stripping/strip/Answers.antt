use Rattle.std.proofs.Common.{◌≡◌, ◌≤◌, ◌<◌, ℕ, List, Bool, true, [], ◌∷◌, ◌++◌, length, get_or}
use Rattle.std.proofs.Common.{set, take, sym, subst, ap, ◌∙◌, arith, ⊎_elim}
use Rattle.std.specs.List.{All}
use Rattle.std.proofs.lemmas.Bool.{cases_lt}
use Rattle.std.proofs.lemmas.List.{length-set, length_push}
use Rattle.graphs.specs.inner.Rows.{links_at}
use Rattle.graphs.specs.inner.StripSteps.{IsNext, IsOpen}
use Rattle.graphs.proofs.lemmas.Marks.{AreMarks}
use Rattle.graphs.proofs.lemmas.MarkLaws.{row, marks_more, each_more, next_one, shut_below}
use Rattle.graphs.proofs.lemmas.MarkLaws.{unmarked_less, counted_by, open_from_bare}
use Rattle.graphs.proofs.stripping.strip.Goals as goal

pub loop-k-preserved : goal.loop-k-preserved
loop-k-preserved c =
    let most = c.args.most in
    let n = length c.args.links.now in
    let links = links_at c.args.links.now in
    let back = links_at c.args.back.now in
    let taken = c.loop-k.taken.items in
    let marks = c.loop-k.marks.items in
    let k = c.in-Some.k in
    let e : c.push.new.self.items ≡ taken ++ k ∷ [] = c.in_ok-push.ensures.items in
    let P : List Bool → Type 0 = λ xs. IsOpen most links xs k in
    let o : IsOpen most links marks k = subst P c.as_slice.ensures.value c.in-Some.ensures.0 in
    let Q : List Bool → Type 0 = λ xs. (t : ℕ) → c.loop-k.from ≤ t → t < k → IsOpen most links xs t
    → ⊥ in
    let lows = subst Q c.as_slice.ensures.value c.in-Some.ensures.1 in
    let inv = c.loop-k.invariant in
    let lt : k < length marks = o.within in
    let R : List ℕ → Type 0 = λ xs. All (λ t. c.lowest-from.result ≤ t) xs in
    let kb : k < length c.args.back.now = omega (arith, inv.len, c.requires.same) in
    let each : All (λ t. c.lowest-from.result ≤ t) (back k) =
    subst R (c.as_slice-in-Some.ensures.value
    ∙ row c.args.back.now k c.index-back-k.result kb c.index-back-k.is)
    c.lowest-from.ensures.each in
    let next = next_one most n links back c.requires.within taken marks k inv.len inv.marks o
    c.loop-k.from inv.shut lows in
    record {
      len = length-set marks k true ∙ inv.len;
      marks = subst (λ xs. AreMarks xs (set marks k true)) (sym e)
          (marks_more taken marks k lt inv.marks);
      count =
          let l = ap length e ∙ length_push taken k in
          let u = unmarked_less marks k lt o.there in
          omega (arith, l, u, inv.count);
      each =
          let S : List ℕ → Type 0 = λ xs. (p : ℕ) → p < length xs
          → IsNext most n links (take p xs) (get_or xs p 0) in
          subst S (sym e) (each_more most n links c.requires.within taken k inv.each next);
      shut = shut_below most n links back c.requires.within taken marks k inv.len inv.marks o
          c.loop-k.from c.lowest-from.result c.requires.mirrored inv.shut lows
          c.lowest-from.ensures.own each;
    }

pub returns : goal.returns
returns c =
    let most = c.args.most in
    let n = length c.args.links.now in
    let links = links_at c.args.links.now in
    let taken = c.loop-k.taken.items in
    let marks = c.loop-k.marks.items in
    let inv = c.loop-k.invariant in
    let Q : List Bool → Type 0 = λ xs. (t : ℕ) → c.loop-k.from ≤ t → IsOpen most links xs t → ⊥ in
    let none = subst Q c.as_slice.ensures.value c.in_default.ensures in (
      record {
        each = inv.each;
        stuck = λ t b.
            let o = open_from_bare most n links c.requires.within taken marks inv.len inv.marks t
            b in
            ⊎_elim (λ (l : t < c.loop-k.from). inv.shut t l o)
            (λ (l : c.loop-k.from ≤ t). none t l o) (cases_lt t c.loop-k.from);
      },
      counted_by n taken marks inv.len inv.marks inv.count,
    )
