-- One word of the options read.
use Rattle.std.proofs.Common.{◌≡◌, ℕ, ◌-◌, true, false, List, [], ◌∷◌, ◌++◌, length, take, drop}
use Rattle.std.proofs.Common.{Option, Some, None, refl, sym, ap, ◌∙◌, append_assoc, arith}
use Rattle.std.proofs.lemmas.List.{append-nil, take_all}
use Rattle.command_words.specs.declared.fault.ArgFault.{ArgFault}
use Rattle.command_words.specs.declared.fault.ArgFault.TheVariants as fault
use Rattle.command_words.specs.declared.options.Options.{Options}
use Rattle.command_words.specs.Texts.{◌>>=◌}
use Rattle.command_words.specs.Options.{Given, group_of, is_end, is_group, with_given, with_front}
use Rattle.command_words.specs.Options.{splits_after}
use Rattle.command_words.specs.inner.Refusals.{IsArgRefusal}

with_front_twice : (f g : List Given) (s : Option Options)
    → with_front f (with_front g s) ≡ with_front (f ++ g) s
with_front_twice f g None = refl
with_front_twice f g (Some s) =
    ap (λ (x : List Given). Some (record { given = x; operands = s.operands }))
    (sym (append_assoc f g s.given))

-- what is left begins with a word
abbrev Left : List Given → List ℕ → List (List ℕ) → Option Options → Type 0
Left given letters rest total = with_front given (splits_after None letters rest) ≡ total

ended : (given : List Given) (operands : List (List ℕ))
    → with_front given (Some (record { given = []; operands = operands }))
    ≡ Some (record { given = given; operands = operands })
ended given operands = ap (λ (x : List Given). Some (record { given = x; operands = operands }))
    (append-nil given)

pub at_end : (given : List Given) (letters : List ℕ) (rest : List (List ℕ)) (total : Option Options)
    → rest ≡ [] → Left given letters rest total
    → total ≡ Some (record { given = given; operands = rest })
at_end given letters rest total e left = sym left ∙ rw e (ended given [])

pub at_dashes : (given : List Given) (letters word : List ℕ) (rest after : List (List ℕ))
    (total : Option Options) → rest ≡ word ∷ after → true ≡ is_end word
    → Left given letters rest total → total ≡ Some (record { given = given; operands = after })
at_dashes given letters word rest after total e h left = sym left ∙ rw (e, ← h) (ended given after)

pub at_operand : (given : List Given) (letters word : List ℕ) (rest after : List (List ℕ))
    (total : Option Options) → rest ≡ word ∷ after → false ≡ is_end word → false ≡ is_group word
    → Left given letters rest total → total ≡ Some (record { given = given; operands = rest })
at_operand given letters word rest after total e h k left = sym left
    ∙ rw e (rw (← h, ← k) (ended given (word ∷ after)))

-- if the whole has no value without the part, a refusal of the part refuses the whole
pub refusal_then : {A B : Type 0} (f : ArgFault) (a : Option A) (b : Option B)
    → (a ≡ None → b ≡ None) → IsArgRefusal f a → IsArgRefusal f b
refusal_then fault.NoMemory a b h r = tt
refusal_then fault.UnknownUtility a b h r = h r
refusal_then fault.UnknownOption a b h r = h r
refusal_then fault.MissingArgument a b h r = h r
refusal_then fault.BadNumber a b h r = h r
refusal_then fault.BadList a b h r = h r
refusal_then fault.BadSet a b h r = h r
refusal_then fault.ExclusiveOptions a b h r = h r
refusal_then fault.BadOperands a b h r = h r

rest_of : (bytes : List ℕ) → take (length bytes - 1) (drop 1 bytes) ≡ drop 1 bytes
rest_of [] = refl
rest_of (b ∷ bytes) = take_all (length (b ∷ bytes) - 1) bytes (omega arith)

grouped : (given given' : List Given) (wanting : Option ℕ) (o : Option (List Given × Option ℕ))
    (letters : List ℕ) (words : List (List ℕ)) → with_given given o ≡ Some (given', wanting)
    → with_front given (o >>= λ (g : List Given × Option ℕ). with_front g.0
    (splits_after g.1 letters words)) ≡ with_front given' (splits_after wanting letters words)
grouped given given' wanting None letters words h = absurd cc
grouped given given' wanting (Some g) letters words h =
    let p : List Given × Option ℕ = (given ++ g.0, g.1) in
    let q : List Given × Option ℕ = (given', wanting) in
    let e : p ≡ q = cc in
    with_front_twice given g.0 (splits_after g.1 letters words)
    ∙ ap (λ (p : List Given × Option ℕ). with_front p.0 (splits_after p.1 letters words)) e

ungrouped : (given : List Given) (o : Option (List Given × Option ℕ)) (letters : List ℕ)
    (words : List (List ℕ)) → with_given given o ≡ None
    → with_front given (o >>= λ (g : List Given × Option ℕ). with_front g.0
    (splits_after g.1 letters words)) ≡ None
ungrouped given None letters words h = refl
ungrouped given (Some g) letters words h = absurd cc

-- a word with a group of letters is in front
pub record AtGroup (given : List Given) (letters word bytes : List ℕ) (rest after : List (List ℕ))
    (total : Option Options) : Type 0 where
  pub bytes_are : bytes ≡ word
  pub rest_is : rest ≡ word ∷ after
  pub no_end : false ≡ is_end bytes
  pub a_group : true ≡ is_group bytes
  pub left : Left given letters rest total

unfolded : {given : List Given} {letters word bytes : List ℕ} {rest after : List (List ℕ)}
    {total : Option Options} → AtGroup given letters word bytes rest after total
    → with_front given
    (group_of letters (take (length bytes - 1) (drop 1 bytes)) >>= λ (g : List Given
    × Option ℕ). with_front g.0 (splits_after g.1 letters after)) ≡ total
unfolded {given} {letters} {word} {bytes} {rest} {after} {total} at =
    let e : with_front given (splits_after None letters (bytes ∷ after)) ≡ total =
    ap (λ (w : List (List ℕ)). with_front given (splits_after None letters w))
    (ap (λ (b : List ℕ). b ∷ after) at.bytes_are ∙ sym at.rest_is) ∙ at.left in
    let n = at.no_end in
    let g = at.a_group in
    rw (rest_of bytes) (rw (← n, ← g) at e)

pub at_group : {given : List Given} {letters word bytes : List ℕ} {rest after : List (List ℕ)}
    {total : Option Options} → AtGroup given letters word bytes rest after total
    → (given' : List Given) (wanting : Option ℕ)
    → with_given given (group_of letters (take (length bytes - 1) (drop 1 bytes)))
    ≡ Some (given', wanting)
    → with_front given' (splits_after wanting letters after) ≡ total
at_group {given} {letters} {word} {bytes} {rest} {after} {total} at given' wanting h =
    sym (grouped given given' wanting (group_of letters (take (length bytes - 1) (drop 1 bytes)))
    letters after h) ∙ unfolded at

pub at_fault : {given : List Given} {letters word bytes : List ℕ} {rest after : List (List ℕ)}
    {total : Option Options} → AtGroup given letters word bytes rest after total
    → (f : ArgFault)
    → IsArgRefusal f
    (with_given given (group_of letters (take (length bytes - 1) (drop 1 bytes))))
    → IsArgRefusal f total
at_fault {given} {letters} {word} {bytes} {rest} {after} {total} at f h =
    refusal_then f (with_given given (group_of letters (take (length bytes - 1) (drop 1 bytes))))
    total (λ n. sym (unfolded at)
    ∙ ungrouped given (group_of letters (take (length bytes - 1) (drop 1 bytes))) letters after
    n) h

-- the word that follows is the argument
pub at_argument : (given : List Given) (letter : ℕ) (letters word : List ℕ)
    (words after : List (List ℕ)) (total : Option Options) → words ≡ word ∷ after
    → with_front given (splits_after (Some letter) letters words) ≡ total
    → Left (given ++ (letter, Some word) ∷ []) letters after total
at_argument given letter letters word words after total e h =
    sym (with_front_twice given ((letter, Some word) ∷ []) (splits_after None letters after))
    ∙ ap (λ (w : List (List ℕ)). with_front given (splits_after (Some letter) letters w))
    (sym e) ∙ h

pub no_argument : (given : List Given) (letter : ℕ) (letters : List ℕ) (words : List (List ℕ))
    (total : Option Options) → words ≡ []
    → with_front given (splits_after (Some letter) letters words) ≡ total → total ≡ None
no_argument given letter letters words total e h = sym h
    ∙ ap (λ (w : List (List ℕ)). with_front given (splits_after (Some letter) letters w)) e
