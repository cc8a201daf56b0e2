-- Calls that are made until one does not fail for now.
use Rattle.std.proofs.Common.{◌≡◌, List, [], ◌∷◌, ◌++◌, All, Option, None, Some, Err, ap, sym}
use Rattle.std.proofs.Common.{◌∙◌, subst, append-nil, append_assoc}
use Rattle.std.proofs.lemmas.List.Elements.{All-nil, All-cons, All-append}
use Rattle.std.specs.declared.io.Error.{Error}
use Rattle.file_stores.specs.inner.Tries.{MayBeMadeAgain, IsTried, FailsForNow}

-- no call was made
pub none_tried : (failed : Option (List Error)) → FailsForNow failed failed
none_tried None = tt
none_tried (Some xs) = ([], All-nil MayBeMadeAgain, ap Some (sym (append-nil xs)))

-- one more was made, and failed for now
pub one_more_tried : (old last new : Option (List Error)) (error : Error) → FailsForNow old last
    → IsTried last new (Err error) → MayBeMadeAgain error → FailsForNow old new
one_more_tried None last new error before tried again = tt
one_more_tried (Some xs) last new error before tried again =
    let errors = before.0 in
    let more : new ≡ Some ((xs ++ errors) ++ error ∷ []) =
    subst (λ (l : Option (List Error)). IsTried l new (Err error)) before.2 tried in (
      errors ++ (error ∷ []),
      All-append MayBeMadeAgain errors (error ∷ []) before.1
          (All-cons MayBeMadeAgain error [] again (All-nil MayBeMadeAgain)),
      more ∙ ap Some (append_assoc xs errors (error ∷ [])),
    )
