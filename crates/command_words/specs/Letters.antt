-- The letters of options (POSIX.1-2017 XBD 12.1, Guideline 3).
use Rattle.std.specs.Prelude.{ℕ}

abbrev pub letter_b : ℕ
letter_b = 98

abbrev pub letter_c : ℕ
letter_c = 99

abbrev pub letter_capital_c : ℕ
letter_capital_c = 67

abbrev pub letter_d : ℕ
letter_d = 100

abbrev pub letter_f : ℕ
letter_f = 102

abbrev pub letter_l : ℕ
letter_l = 108

abbrev pub letter_m : ℕ
letter_m = 109

abbrev pub letter_n : ℕ
letter_n = 110

abbrev pub letter_s : ℕ
letter_s = 115

abbrev pub letter_u : ℕ
letter_u = 117

abbrev pub letter_w : ℕ
letter_w = 119
