-- Facts of a result, from other facts of it.
use Rattle.std.proofs.Common.{Result, Ok, Err, OnOk, OnErr, IfOk}

-- a fact of a failure, if it holds in any case
pub on_err : {T E : Type 0} {P : Type 0} (r : Result T E) → P → OnErr r P
on_err (Ok v) p = tt
on_err (Err e) p = p

-- a fact of a failure, from another
pub on_err_of : {T E : Type 0} {P Q : Type 0} (r : Result T E) → (P → Q) → OnErr r P → OnErr r Q
on_err_of (Ok v) f p = tt
on_err_of (Err e) f p = f p

-- a fact of a success, from another
pub on_ok : {T E : Type 0} {P Q : Type 0} (r : Result T E) → (P → Q) → OnOk r P → OnOk r Q
on_ok (Ok v) f p = f p
on_ok (Err e) f p = tt

-- a fact of the value, from two others
pub if_ok_both : {T E : Type 0} {P Q R : T → Type 0} (r : Result T E) → ((v : T) → P v → Q v → R v)
    → IfOk r P → IfOk r Q → IfOk r R
if_ok_both (Ok v) f p q = f v p q
if_ok_both (Err e) f p q = tt
