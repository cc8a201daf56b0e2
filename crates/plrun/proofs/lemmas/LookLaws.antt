-- Looks that are made one after another.
use Rattle.std.proofs.Common.{◌≡◌, ◌&&◌, not, Bool, List, [], ◌∷◌, ◌++◌, map, Option, Some, None}
use Rattle.std.proofs.Common.{refl, sym, ap, subst, ◌∙◌}
use Rattle.std.proofs.lemmas.List.{append_assoc, append-nil, map-append}
use Rattle.planner.specs.Planned.{Planned}
use Rattle.plrun.specs.Looks.{AddsLooks, FindsFiles, IsFound, Look, LooksThrough, RunFile}
use Rattle.plrun.specs.Looks.{all_open, checked_files, is_report_taken}
use Rattle.plrun.specs.inner.Seen.{GoesThrough, all_kept_open, file_of, files_in, look_of, looks_of}
use Rattle.plrun.specs.declared.looks.AskedCheck.{AskedCheck}
use Rattle.plrun.specs.declared.looks.Found.{Found}
use Rattle.plrun.specs.declared.looks.KeptLook.{KeptLook}

adds_none : (start : Option (List Look)) → AddsLooks start [] start
adds_none None = tt
adds_none (Some made) = ap (λ (l : List Look). Some l) (sym (append-nil made))

adds_more : (start before after : Option (List Look)) (xs ys : List Look)
    → AddsLooks start xs before → AddsLooks before ys after → AddsLooks start (xs ++ ys) after
adds_more None before after xs ys one two = tt
adds_more (Some made) before after xs ys one two =
    let there : after ≡ Some ((made ++ xs) ++ ys) =
    subst (λ (b : Option (List Look)). AddsLooks b ys after) one two in
    there ∙ ap (λ (l : List Look). Some l) (append_assoc made xs ys)

-- no file was looked at
pub goes_none : (kept : List KeptLook) (looks : Option (List Look))
    → GoesThrough [] kept kept looks looks
goes_none kept looks = record { files = sym (append-nil (files_in kept)); kept = λ start h. h }

-- one more file was looked at
pub goes_more : (files : List RunFile) (old mid : List KeptLook) (one : KeptLook)
    (before then after : Option (List Look)) → GoesThrough files old mid before then
    → AddsLooks then (look_of one ∷ []) after
    → GoesThrough (files ++ file_of one.file ∷ []) old (mid ++ one ∷ []) before after
goes_more files old mid one before then after h adds = record {
  files = ap (map (λ (l : Look). l.file)) (map-append look_of mid (one ∷ []))
      ∙ (map-append (λ (l : Look). l.file) (looks_of mid) (look_of one ∷ [])
      ∙ (ap (λ (l : List RunFile). l ++ file_of one.file ∷ []) h.files
      ∙ append_assoc (files_in old) files (file_of one.file ∷ [])));
  kept = λ start s. subst (λ (l : List Look). AddsLooks start l after)
      (sym (map-append look_of mid (one ∷ [])))
      (adds_more start then after (looks_of mid) (look_of one ∷ []) (h.kept start s) adds);
}

-- some files were looked at, and then others
pub goes_on : (files others : List RunFile) (old mid new : List KeptLook)
    (before then after : Option (List Look)) → GoesThrough files old mid before then
    → GoesThrough others mid new then after
    → GoesThrough (files ++ others) old new before after
goes_on files others old mid new before then after h k = record {
  files = k.files
      ∙ (ap (λ (l : List RunFile). l ++ others) h.files ∙ append_assoc (files_in old) files others);
  kept = λ start s. k.kept start (h.kept start s);
}

all_kept : (kept : List KeptLook) → all_kept_open kept ≡ all_open (looks_of kept)
all_kept [] = refl
all_kept (k ∷ kept) = ap (λ (b : Bool). k.opens && b) (all_kept kept)

-- what was found by looks at the files of a plan
pub found_by : (asked : AskedCheck) (plan : Planned) (kept : List KeptLook)
    (before after : Option (List Look)) (taken all : Bool)
    → GoesThrough (checked_files asked plan) [] kept before after
    → taken ≡ is_report_taken asked.report asked.script plan
    → all ≡ (all_kept_open kept && not taken)
    → LooksThrough asked plan before after all
found_by asked plan kept before after taken all h is_taken is = record {
  looks = looks_of kept;
  files = h.files;
  added = h.kept before (adds_none before);
  found = is ∙ (ap (λ (b : Bool). b && not taken) (all_kept kept)
      ∙ ap (λ (b : Bool). all_open (looks_of kept) && not b) is_taken);
}

-- the plan is the one that was read
pub finds_files : (asked : AskedCheck) (read : Option Planned) (plan : Planned)
    (before after : Option (List Look)) (found : Found) → read ≡ Some plan
    → IsFound asked plan before after found → FindsFiles (Some asked) read 0 before after found
finds_files asked read plan before after found is h = record {
  looked = λ a p asked_is plan_is zero.
      let same_asked : asked ≡ a = cc in
      let same_plan : plan ≡ p = cc in
      subst (λ (x : AskedCheck). IsFound x p before after found) same_asked
      (subst (λ (q : Planned). IsFound asked q before after found) same_plan h);
  unasked = λ none. absurd (cc);
  ended = λ differs. absurd (differs refl);
}
