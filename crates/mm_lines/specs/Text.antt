-- What lines are answered, for any answerer.
use Rattle.std.specs.Prelude.{◌≡◌, ◌⊎◌, ℕ, ◌+◌, ◌≤◌, ◌<◌, Bool, true, false, List, [], ◌∷◌, ◌++◌, length, Result, Ok, Err}
use Rattle.mm_lines.specs.declared.fault.Fault.{Fault}
use Rattle.mm_lines.specs.declared.fault.Fault.TheVariants.{Read, Write, TooLong}
use Rattle.mm_lines.specs.Lines.{lines_of, whole_lines}

-- `answers s line reply malformed t` says that from the state s a line is answered by these bytes, that `malformed` is 1 if it is malformed, and else 0, and that
-- t is the state after it
module _ {S : Type 0} (answers : S → List ℕ → List ℕ → ℕ → S → Type 0) where
  -- the bytes that lines are answered, how many of them are malformed, and the state after them: all lines if `whole` holds, and else perhaps only some at
  -- the front
  abbrev pub Text : Bool → S → List (List ℕ) → List ℕ → ℕ → S → Type 0
  Text whole s [] out malformed last = (out ≡ []) × (malformed ≡ 0) × (last ≡ s)
  Text true s (line ∷ lines) out malformed last =
      (next : S) × (reply : List ℕ) × (rest : List ℕ) × (one : ℕ) × (more : ℕ)
      × answers s line reply one next × Text true next lines rest more last
      × (out ≡ reply ++ rest) × (malformed ≡ one + more)
  Text false s (line ∷ lines) out malformed last =
      ((out ≡ []) × (malformed ≡ 0) × (last ≡ s))
      ⊎ ((next : S) × (reply : List ℕ) × (rest : List ℕ) × (one : ℕ) × (more : ℕ)
      × answers s line reply one next × Text false next lines rest more last
      × (out ≡ reply ++ rest) × (malformed ≡ one + more))

  -- these are the replies to the lines, or if not `whole` to some at the front, and this is the state after those lines
  abbrev pub AreReplies : Bool → S → List (List ℕ) → List ℕ → S → Type 0
  AreReplies whole s lines out last = (malformed : ℕ) × Text whole s lines out malformed last

  -- a run from this state that may read this many bytes, and ended so, read these bytes, wrote those, and left that state
  abbrev pub Ends : ℕ → S → Result ℕ Fault → List ℕ → List ℕ → S → Type 0
  Ends limit s (Ok malformed) read written last = (length read ≤ limit) × Text true s (lines_of read) written malformed last
  Ends limit s (Err Read) read written last = (length read ≤ limit) × AreReplies true s (whole_lines read) written last
  Ends limit s (Err Write) read written last = (length read ≤ limit + 1) × ((lost : List ℕ) × AreReplies false s (lines_of read) (written ++ lost) last)
  Ends limit s (Err TooLong) read written last =
      (allowed : List ℕ) × (last_byte : ℕ) × (read ≡ allowed ++ last_byte ∷ []) × (length allowed ≡ limit) × AreReplies true s (whole_lines allowed) written last

-- all lines of more than `longest` bytes are answered alike
abbrev pub AreAlike : {S : Type 0} → (S → List ℕ → List ℕ → ℕ → S → Type 0) → ℕ → Type 0
AreAlike {S} answers longest = (s t : S) (a b reply : List ℕ) (one : ℕ) → longest < length a → longest < length b → answers s a reply one t → answers s b reply one t
