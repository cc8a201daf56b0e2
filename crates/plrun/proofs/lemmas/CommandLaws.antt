-- What the process did, by the words that it was given.
use Rattle.std.proofs.Common.{◌≡◌, ℕ, Bool, List, Option, inl, refl}
use Rattle.std.specs.Prelude.{unwrap_or, [], IfSome, Some, None}
use Rattle.plrun.specs.Process.{EndsHanded, ProcessShown}

-- nothing was done, whatever words were handed over
pub nothing_done : (known : Bool) (words : Option (List (List ℕ)))
    (options : Option (Option (List ℕ))) (shown : ProcessShown) (status : ℕ) → status ≡ 2
    → EndsHanded known words options shown shown status
nothing_done known words options shown status two = record {
  given = unwrap_or words [];
  preset = unwrap_or (unwrap_or options None) [];
  handed = record { words_are = by_words words; options_are = by_options options };
  ends = inl (two, refl, refl);
}
  where
    by_words : (ws : Option (List (List ℕ))) → IfSome ws (λ w. unwrap_or ws [] ≡ w)
    by_words None = tt
    by_words (Some w) = refl

    by_options : (os : Option (Option (List ℕ)))
        → IfSome os (λ held. unwrap_or (unwrap_or os None) [] ≡ unwrap_or held [])
    by_options None = tt
    by_options (Some held) = refl
