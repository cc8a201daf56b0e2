-- The machine of a table whose columns are of one input goes on as the law says.
use Rattle.std.proofs.Common.{◌≡◌, ℕ, ◌<◌, Bool, true, false, cond, List, ◌++◌, [], Option, length}
use Rattle.std.proofs.Common.{get_or, set, drop, refl, ap, ◌∙◌, sym, subst, arith, ◌≤◌}
use Rattle.machine.specs.Law.{Feeds}
use Rattle.machine.specs.Pieces.{Queued, contents}
use Rattle.machine.specs.declared.protocol.Want.TheVariants.{Take, Finished}
use Rattle.pair_filters.specs.Circles.{IsRow, place_after, put_in}
use Rattle.pair_filters.specs.Intakes.{Left, intake, first_left}
use Rattle.pair_filters.specs.TableShows.{column_wanted, column_open, open_within, pasting}
use Rattle.pair_filters.specs.inner.TableSteps.{IsSettled, WritesCells}
use Rattle.pair_filters.specs.declared.table.Place.{Place}
use Rattle.pair_filters.proofs.lemmas.CircleRows.{left_is, piece_put}
use Rattle.pair_filters.proofs.lemmas.TableFeeds.{table_feeds, wanted_settled}

-- nothing is left of the only input
pub row_emptied : (ds : List (Option ℕ)) (cs circle : List ℕ) (ss : List Left) (k k' : ℕ)
    → IsRow ds cs circle → k < length circle → k' < length circle → first_left (drop k cs) ss ≡ []
    → first_left (drop k' cs) ss ≡ []
row_emptied ds cs circle ss k k' row low low' none =
    ap (λ (l : List ℕ). first_left l ss)
    (left_is ds cs circle k' row (subst (λ (n : ℕ). k' < n) row.long low'))
    ∙ (ap (λ (l : List ℕ). first_left l ss)
    (sym (left_is ds cs circle k row (subst (λ (n : ℕ). k < n) row.long low))) ∙ none)

row_settled : (ds : List (Option ℕ)) (cs circle : List ℕ) (ss : List Left) (k k' : ℕ)
    → IsRow ds cs circle → k < length circle → k' < length circle → IsSettled (drop k cs) ss
    → IsSettled (drop k' cs) ss
row_settled ds cs circle ss k k' row low low' h =
    subst (λ (l : List ℕ). IsSettled l ss)
    (sym (left_is ds cs circle k' row (subst (λ (n : ℕ). k' < n) row.long low')))
    (subst (λ (l : List ℕ). IsSettled l ss)
    (left_is ds cs circle k row (subst (λ (n : ℕ). k < n) row.long low)) h)

take_by : (b : Bool) (x i : ℕ) → cond b Finished (Take x) ≡ Take i → x ≡ i
take_by true x i h = absurd (cc)
take_by false x i h = cc

-- the input that is wanted is the only one
wanted_only : (ds : List (Option ℕ)) (cs circle : List ℕ) (ss : List Left) (k i : ℕ)
    → IsRow ds cs circle → k < length circle → column_wanted (drop k cs) ss ≡ Take i
    → get_or cs 0 0 ≡ i
wanted_only ds cs circle ss k i row low wants =
    let is = left_is ds cs circle k row (subst (λ (n : ℕ). k < n) row.long low) in
    take_by (intake ss (get_or cs 0 0)).closed (get_or cs 0 0) i
    (sym (ap (λ (l : List ℕ). column_wanted l ss) is) ∙ wants)

-- a piece of it
pub circle_feeds : (ds : List (Option ℕ)) (cs circle : List ℕ) (ss : List Left)
    (place place' : Place) (i : ℕ) (piece made : List ℕ) (out out' : Queued) → IsRow ds cs circle
    → column_wanted (drop place.column cs) ss ≡ Take i → place.column < length circle
    → (place.begun ≡ false → place.column ≡ 0) → first_left (drop place.column cs) ss ≡ []
    → place' ≡ place_after (length circle) place piece → place'.column < length circle
    → made ≡ put_in circle place.column piece → contents out' ≡ contents out ++ made
    → Feeds i piece (pasting ds cs ss place) (pasting ds cs ss place') out out'
circle_feeds ds cs circle ss place place' i piece made out out' row wants low begun none is low' e
    added =
    let k = place.column in
    let within : k < length cs = subst (λ (n : ℕ). k < n) row.long low in
    let only = wanted_only ds cs circle ss k i row low wants in
    let empty : (intake ss i).left ≡ [] = ap (λ (j : ℕ). (intake ss j).left) (sym only)
    ∙ (sym (ap (λ (l : List ℕ). first_left l ss) (left_is ds cs circle k row within)) ∙ none) in
    let s : Left = record (intake ss i) { left = (intake ss i).left ++ piece } in
    let puts = piece_put ds cs circle ss s i place piece row (row.same k within
    ∙ only) (open_within ss i (column_open (drop k cs) ss i wants)) within begun empty refl in
    table_feeds ds cs ss ss s place place' i piece made out out' wants refl
    (subst (λ (p : Place). WritesCells ds cs (set ss i s) ss place p [] made) (sym is)
    (subst (λ (x : List ℕ). WritesCells ds cs (set ss i s) ss place
    (place_after (length circle) place piece) [] x) (sym e) puts))
    (row_settled ds cs circle ss k place'.column row low low'
    (wanted_settled (drop k cs) ss i wants))
    added

-- the same, if calls were given these bytes and this circle
pub circle_feeds_as : (ds : List (Option ℕ)) (cs circle given given' : List ℕ) (ss : List Left)
    (place place' : Place) (i : ℕ) (piece bytes made : List ℕ) (out out' : Queued) → given ≡ circle
    → given' ≡ circle → bytes ≡ piece → (1 ≤ length circle → IsRow ds cs circle)
    → column_wanted (drop place.column cs) ss ≡ Take i → place.column < length given
    → (place.begun ≡ false → place.column ≡ 0) → first_left (drop place.column cs) ss ≡ []
    → place' ≡ place_after (length given') place bytes → place'.column < length given'
    → made ≡ put_in given' place.column bytes → contents out' ≡ contents out ++ made
    → Feeds i piece (pasting ds cs ss place) (pasting ds cs ss place') out out'
circle_feeds_as ds cs circle given given' ss place place' i piece bytes made out out' g g' b row
    wants low begun none is low' e added =
    let within : place.column < length circle =
    subst (λ (x : List ℕ). place.column < length x) g low in
    circle_feeds ds cs circle ss place place' i piece made out out'
    (row (omega (arith, within))) wants within begun none
    (subst (λ (x : List ℕ). place' ≡ place_after (length x) place piece) g'
    (subst (λ (x : List ℕ). place' ≡ place_after (length given') place x) b is))
    (subst (λ (x : List ℕ). place'.column < length x) g' low')
    (subst (λ (x : List ℕ). made ≡ put_in x place.column piece) g'
    (subst (λ (x : List ℕ). made ≡ put_in given' place.column x) b e))
    added
