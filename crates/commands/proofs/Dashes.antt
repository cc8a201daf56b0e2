-- A command names its standard input at most once among its inputs.
use Rattle.std.proofs.Common.{◌≡◌, ℕ, ◌≤◌, ◌==◌, ◌||◌, ◌&&◌, Bool, true, false, not, cond, nat_le}
use Rattle.std.proofs.Common.{List, [], ◌∷◌, length, map, codes, bytes_eq, Option, Some, None, refl}
use Rattle.std.proofs.Common.{subst, arith}
use Rattle.std.specs.List.{count_by, filter, enumerate_from, position_or_len}
use Rattle.std.specs.Option.{IfSome}
use Rattle.std.proofs.lemmas.Bool.{leb-true}
use Rattle.std.proofs.lemmas.Option.{none-some, same_Some}
use Rattle.std.proofs.lemmas.List.Sums.{count_by-le-length, sum_by-le-sum_by}
use Rattle.command_words.specs.Arguments.{argument, names_input_once, input_names}
use Rattle.command_words.specs.Streams.{is_standard_input}
use Rattle.command_words.specs.Bytes.{dash}
use Rattle.command_words.specs.Letters.{letter_c, letter_n}
use Rattle.command_words.specs.Options.{splits}
use Rattle.command_words.specs.Texts.{◌>>=◌}
use Rattle.command_words.specs.declared.options.Options.{Options}
use Rattle.commands.specs.Filters.{filter_by_name, filter_means}
use Rattle.commands.specs.Operands as operands
use Rattle.commands.specs.declared.spec.FilterSpec.{FilterSpec}
use Rattle.commands.specs.declared.spec.FilterSpec.TheVariants as spec
use Rattle.commands.proofs.CountedWords.{count_map, count_filter, one_at}

-- at most one of these is `-`
abbrev pub IsOnce : List (List ℕ) → Type 0
IsOnce names = count_by is_standard_input names ≤ 1

-- at most one of a command's input operands is
abbrev pub IsFine : FilterSpec → Type 0
IsFine f = IsOnce (operands.input_operands f)

-- ---- names

once_if : {A : Type 0} (names : List (List ℕ)) (x y : A)
    → cond (names_input_once names) (Some x) None ≡ Some y → IsOnce names × (x ≡ y)
once_if names x y e = by_case (names_input_once names) refl e
  where
    by_case : (b : Bool) → names_input_once names ≡ b → cond b (Some x) None ≡ Some y
        → IsOnce names × (x ≡ y)
    by_case true h e = (leb-true (count_by is_standard_input names) 1 h, same_Some x y e)
    by_case false h e = absurd (none-some y e)

once_single : (word : List ℕ) → IsOnce (word ∷ [])
once_single word = count_by-le-length is_standard_input (word ∷ [])

once_input_names : (words names : List (List ℕ)) → input_names words ≡ Some names → IsOnce names
once_input_names [] names e = subst IsOnce (same_Some ((dash ∷ []) ∷ []) names e)
    (once_single (dash ∷ []))
once_input_names (word ∷ words) names e =
    let (o, s) = once_if (word ∷ words) (word ∷ words) names e in
    subst IsOnce s o

own_only : (b d : Bool) → ◌≤◌ (cond ((b || not d) && d) 1 0) (cond b 1 0)
own_only true true = omega arith
own_only true false = omega arith
own_only false true = omega arith
own_only false false = omega arith

-- names among which each `-` but the first was left out
once_own : (words : List (List ℕ))
    → IsOnce (map (λ (p : ℕ × List ℕ). p.1)
    (filter (λ p. (p.0 == position_or_len is_standard_input words) || not (is_standard_input p.1))
    (enumerate_from 0 words)))
once_own words =
    let first = position_or_len is_standard_input words in
    let numbered = enumerate_from 0 words in
    let own : ℕ × List ℕ → Bool = λ p. (p.0 == first) || not (is_standard_input p.1) in
    let a = count_map is_standard_input (λ (p : ℕ × List ℕ). p.1) (filter own numbered) in
    let b = count_filter (λ (p : ℕ × List ℕ). is_standard_input p.1) own numbered in
    let c = sum_by-le-sum_by (λ (p : ℕ × List ℕ). cond (own p && is_standard_input p.1) 1 0)
    (λ (p : ℕ × List ℕ). cond (p.0 == first) 1 0) numbered
    (λ p. own_only (p.0 == first) (is_standard_input p.1)) in
    let d = one_at words 0 first in
    omega (arith, a, b, c, d)

-- ---- what gives something, by a test

-- what a computation that gives something gave before
pub bound : {A B P : Type 0} (o : Option A) (f : A → Option B) (y : B) → (o >>= f) ≡ Some y
    → ((x : A) → o ≡ Some x → f x ≡ Some y → P) → P
bound None f y e go = absurd (none-some y e)
bound (Some x) f y e go = go x refl e

pub where_true : {A : Type 0} (b : Bool) (x : Option A) (y : A) → cond b x None ≡ Some y
    → x ≡ Some y
where_true true x y e = e
where_true false x y e = absurd (none-some y e)

pub where_false : {A : Type 0} (b : Bool) (x : Option A) (y : A) → cond b None x ≡ Some y
    → x ≡ Some y
where_false true x y e = absurd (none-some y e)
where_false false x y e = e

-- what holds of all that is made of a value holds of what is made of it
pub each_of : {A B : Type 0} (P : B → Type 0) (o : Option A) (f : A → Option B)
    → ((x : A) → o ≡ Some x → IfSome (f x) P) → IfSome (o >>= f) P
each_of P None f h = tt
each_of P (Some x) f h = h x refl

pub each_in : {A B : Type 0} (P : B → Type 0) (o : Option A) (mk : A → B) → IfSome o (λ s. P (mk s))
    → IfSome (o >>= λ s. Some (mk s)) P
each_in P None mk h = tt
each_in P (Some s) mk h = h

pub each_if : {B : Type 0} (P : B → Type 0) (b : Bool) (o : Option B) → IfSome o P
    → IfSome (cond b o None) P
each_if P true o h = h
each_if P false o h = tt

pub of_each : {B : Type 0} (P : B → Type 0) (o : Option B) (y : B) → o ≡ Some y → IfSome o P → P y
of_each {B} P o y e h = subst (λ (p : Option B). IfSome p P) e h

pub option_cases : {A P : Type 0} (o : Option A) → (o ≡ None → P) → ((x : A) → o ≡ Some x → P) → P
option_cases None n s = n refl
option_cases (Some x) n s = s x refl

-- no word, one, two, or more
pub words_cases : {P : Type 0} (ws : List (List ℕ)) → (ws ≡ [] → P)
    → ((a : List ℕ) → ws ≡ a ∷ [] → P) → ((a b : List ℕ) → ws ≡ a ∷ b ∷ [] → P)
    → ((a b c : List ℕ) (more : List (List ℕ)) → ws ≡ a ∷ b ∷ c ∷ more → P) → P
words_cases [] n o t m = n refl
words_cases (a ∷ []) n o t m = o a refl
words_cases (a ∷ b ∷ []) n o t m = t a b refl
words_cases (a ∷ b ∷ c ∷ more) n o t m = m a b c more refl

-- ---- each utility

once_cat : (words : List (List ℕ)) (f : FilterSpec) → filter_by_name (codes "cat") words ≡ Some f
    → IsFine f
once_cat words f e = of_each IsFine _ f e
    (each_in IsFine _ spec.Cat (search (each_of, once_input_names)))

once_cut : (words : List (List ℕ)) (f : FilterSpec) → filter_by_name (codes "cut") words ≡ Some f
    → IsFine f
once_cut words f e = of_each IsFine _ f e
    (each_in IsFine _ spec.Cut (search (each_if, each_of, once_input_names) depth 9))

once_fold : (words : List (List ℕ)) (f : FilterSpec) → filter_by_name (codes "fold") words ≡ Some f
    → IsFine f
once_fold words f e = of_each IsFine _ f e
    (each_in IsFine _ spec.Fold (search (each_of, once_input_names)))

once_head : (words : List (List ℕ)) (f : FilterSpec) → filter_by_name (codes "head") words ≡ Some f
    → IsFine f
once_head words f e = of_each IsFine _ f e
    (each_in IsFine _ spec.Head (search (each_of, once_input_names)))

once_paste : (words : List (List ℕ)) (f : FilterSpec)
    → filter_by_name (codes "paste") words ≡ Some f → IsFine f
once_paste words f e = of_each IsFine _ f e
    (each_in IsFine _ spec.Paste (search (each_of, once_own)))

once_tail : (words : List (List ℕ)) (f : FilterSpec) → filter_by_name (codes "tail") words ≡ Some f
    → IsFine f
once_tail words f e =
    bound _ (λ s. Some (spec.Tail s)) f e (λ s es ef. subst IsFine (same_Some _ f ef)
    (bound (splits (codes "n:c:") words) _ s es (λ (o : Options) eo e'.
    bound (cond (nat_le (length o.operands) 1) (input_names o.operands) None) _ s e'
    (λ (names : List (List ℕ)) en e''.
    let once = once_input_names o.operands names
    (where_true (nat_le (length o.operands) 1) (input_names o.operands) names en) in
    option_cases (argument letter_n o.given)
    (λ n. option_cases (argument letter_c o.given)
    (λ c. let e3 = rw (n, c) at e'' in subst (λ t. IsFine (spec.Tail t)) (same_Some _ s e3) once)
    (λ bytes c. let e3 = rw (n, c) at e'' in
    bound _ _ s e3 (λ k ek e4. subst (λ t. IsFine (spec.Tail t)) (same_Some _ s e4) once)))
    (λ lines n. option_cases (argument letter_c o.given)
    (λ c. let e3 = rw (n, c) at e'' in
    bound _ _ s e3 (λ k ek e4. subst (λ t. IsFine (spec.Tail t)) (same_Some _ s e4) once))
    (λ bytes c. let e3 = rw (n, c) at e'' in absurd (none-some s e3)))))))

once_tr : (words : List (List ℕ)) (f : FilterSpec) → filter_by_name (codes "tr") words ≡ Some f
    → IsFine f
once_tr words f e = bound _ (λ s. Some (spec.Tr s)) f e
    (λ s es ef. subst IsFine (same_Some _ f ef) (omega arith))

once_tee : (words : List (List ℕ)) (f : FilterSpec) → filter_by_name (codes "tee") words ≡ Some f
    → IsFine f
once_tee words f e = bound _ (λ s. Some (spec.Tee s)) f e
    (λ s es ef. subst IsFine (same_Some _ f ef) (omega arith))

once_uniq : (words : List (List ℕ)) (f : FilterSpec) → filter_by_name (codes "uniq") words ≡ Some f
    → IsFine f
once_uniq words f e =
    bound _ (λ s. Some (spec.Uniq s)) f e (λ s es ef. subst IsFine (same_Some _ f ef)
    (bound (splits (codes "cduf:s:") words) _ s es (λ (o : Options) eo e'.
    words_cases o.operands
    (λ w. let e2 = rw w at e' in let once = once_single (dash ∷ []) in
    of_each (λ t. IsFine (spec.Uniq t)) _ s e2 (search (each_of, once)))
    (λ a w. let e2 = rw w at e' in let once = once_single a in
    of_each (λ t. IsFine (spec.Uniq t)) _ s e2 (search (each_of, once)))
    (λ a b w. let e2 = rw w at e' in let once = once_single a in
    of_each (λ t. IsFine (spec.Uniq t)) _ s e2 (search (each_of, once)))
    (λ a b c more w. let e2 = rw w at e' in
    of_each (λ t. IsFine (spec.Uniq t)) _ s e2 (search (each_of))))))

once_wc : (words : List (List ℕ)) (f : FilterSpec) → filter_by_name (codes "wc") words ≡ Some f
    → IsFine f
once_wc words f e =
    bound _ (λ s. Some (spec.Wc s)) f e (λ s es ef. subst IsFine (same_Some _ f ef)
    (bound (splits (codes "cmlw") words) _ s es (λ (o : Options) eo e'.
    let h = once_if o.operands _ s (where_false _ _ s e') in
    subst (λ t. IsFine (spec.Wc t)) h.1 h.0)))

-- ---- all of them

either : {P : Type 0} (b : Bool) (x y : Option FilterSpec) (f : FilterSpec) → (x ≡ Some f → P)
    → (y ≡ Some f → P) → cond b x y ≡ Some f → P
either true x y f h k e = h e
either false x y f h k e = k e

-- what holds of the commands of each utility
pub record HoldsOfEach (P : FilterSpec → Type 0) (words : List (List ℕ)) : Type 0 where
  pub cat : (f : FilterSpec) → filter_by_name (codes "cat") words ≡ Some f → P f
  pub cut : (f : FilterSpec) → filter_by_name (codes "cut") words ≡ Some f → P f
  pub fold : (f : FilterSpec) → filter_by_name (codes "fold") words ≡ Some f → P f
  pub head : (f : FilterSpec) → filter_by_name (codes "head") words ≡ Some f → P f
  pub paste : (f : FilterSpec) → filter_by_name (codes "paste") words ≡ Some f → P f
  pub tail : (f : FilterSpec) → filter_by_name (codes "tail") words ≡ Some f → P f
  pub tee : (f : FilterSpec) → filter_by_name (codes "tee") words ≡ Some f → P f
  pub tr : (f : FilterSpec) → filter_by_name (codes "tr") words ≡ Some f → P f
  pub uniq : (f : FilterSpec) → filter_by_name (codes "uniq") words ≡ Some f → P f
  pub wc : (f : FilterSpec) → filter_by_name (codes "wc") words ≡ Some f → P f

-- holds of all commands
pub of_each_utility : (P : FilterSpec → Type 0) (name : List ℕ) (words : List (List ℕ))
    → HoldsOfEach P words → (f : FilterSpec) → filter_by_name name words ≡ Some f → P f
of_each_utility P name words h f =
    either (bytes_eq name (codes "cat")) _ _ f (h.cat f)
    (either (bytes_eq name (codes "cut")) _ _ f (h.cut f)
    (either (bytes_eq name (codes "fold")) _ _ f (h.fold f)
    (either (bytes_eq name (codes "head")) _ _ f (h.head f)
    (either (bytes_eq name (codes "paste")) _ _ f (h.paste f)
    (either (bytes_eq name (codes "tail")) _ _ f (h.tail f)
    (either (bytes_eq name (codes "tee")) _ _ f (h.tee f)
    (either (bytes_eq name (codes "tr")) _ _ f (h.tr f)
    (either (bytes_eq name (codes "uniq")) _ _ f (h.uniq f)
    (either (bytes_eq name (codes "wc")) _ None f (h.wc f) (λ e. absurd (none-some f e)))))))))))

once_operands : (name : List ℕ) (words : List (List ℕ)) (f : FilterSpec)
    → filter_by_name name words ≡ Some f → IsFine f
once_operands name words f = of_each_utility IsFine name words (record {
  cat = once_cat words;
  cut = once_cut words;
  fold = once_fold words;
  head = once_head words;
  paste = once_paste words;
  tail = once_tail words;
  tee = once_tee words;
  tr = once_tr words;
  uniq = once_uniq words;
  wc = once_wc words;
}) f

once_or_standard : (names : List (List ℕ)) → IsOnce names → IsOnce (operands.or_standard names)
once_or_standard [] h = once_single (dash ∷ [])
once_or_standard (name ∷ names) h = h

-- standard input is at most one of the inputs of a command that means something
pub dash_once : (words : List (List ℕ)) (f : FilterSpec) → filter_means words ≡ Some f
    → count_by is_standard_input (operands.input_names f) ≤ 1
dash_once [] f e = absurd (none-some f e)
dash_once (name ∷ words) f e = once_or_standard (operands.input_operands f)
    (once_operands name words f e)
