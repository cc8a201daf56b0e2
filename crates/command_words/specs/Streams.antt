-- The names of a command's standard input and standard output.
--
-- `-` as an operand (POSIX.1-2017 XBD 12.2, guideline 13), and the paths of the process's own
-- descriptors 0 and 1 (Linux, proc_pid_fd and proc_thread-self). To open such a path opens the
-- stream itself.
use Rattle.std.specs.Prelude.{ℕ, ◌-◌, ◌==◌, ◌&&◌, ◌||◌, not, Bool, false, List, [], ◌∷◌, length}
use Rattle.std.specs.Prelude.{take, drop, codes, is_none}
use Rattle.command_words.specs.Bytes.{dash}
use Rattle.command_words.specs.Numbers.{number}
use Rattle.command_words.specs.Texts.{same_bytes}

-- whether a word is `-`
abbrev pub is_dash : List ℕ → Bool
is_dash [] = false
is_dash (x ∷ []) = x == dash
is_dash (x ∷ y ∷ ys) = false

-- whether a word is a number
abbrev pub is_number : List ℕ → Bool
is_number word = not (is_none (number word))

-- `NUMBER/fd/`, the descriptors of a thread with this number
abbrev pub is_thread : List ℕ → Bool
is_thread word =
    same_bytes (drop (length word - 4) word) (codes "/fd/")
    && is_number (take (length word - 4) word)

-- `/proc/self/task/NUMBER/fd/`
abbrev pub is_of_thread : List ℕ → Bool
is_of_thread folder =
    same_bytes (take 16 folder) (codes "/proc/self/task/") && is_thread (drop 16 folder)

-- whether a path is one of the folders of the process's own descriptors
abbrev pub is_of_descriptors : List ℕ → Bool
is_of_descriptors folder =
    same_bytes folder (codes "/dev/fd/")
    || (same_bytes folder (codes "/proc/self/fd/")
    || (same_bytes folder (codes "/proc/thread-self/fd/") || is_of_thread folder))

-- whether a word is the path of the descriptor with this digit
abbrev pub is_descriptor : ℕ → List ℕ → Bool
is_descriptor digit word =
    is_of_descriptors (take (length word - 1) word)
    && same_bytes (drop (length word - 1) word) (digit ∷ [])

-- whether a word is a path of the standard input, and of the standard output
unfoldable pub is_input_path : List ℕ → Bool
is_input_path word = same_bytes word (codes "/dev/stdin") || is_descriptor 48 word

unfoldable pub is_output_path : List ℕ → Bool
is_output_path word = same_bytes word (codes "/dev/stdout") || is_descriptor 49 word

-- whether an operand names the standard input, and the standard output
abbrev pub is_standard_input : List ℕ → Bool
is_standard_input word = is_dash word || is_input_path word

abbrev pub is_standard_output : List ℕ → Bool
is_standard_output word = is_dash word || is_output_path word
