-- What a file is read as: the lines of the list of small files, and the claim over it.
use Rattle.std.specs.Prelude.{ℕ, ◌≡◌, Bool, true, false, List, [], ◌∷◌, ◌++◌, map, ℤ, pos}
use Rattle.families.specs.States.{state_of}
use Rattle.families.specs.declared.Kind.{Kind}
use Rattle.families.specs.declared.Kind.TheVariants.{Register}
use Rattle.stepping.specs.declared.histories.Operation.{Operation}
use Rattle.stepping.specs.Record.{held}
use Rattle.recording_meaning.specs.Models.{Model}
use Rattle.corpus.specs.Load.{Load, load_of}

-- The number and the place that loading returns, and of the tester the object that it starts with, the values that this holds (of a stack the top
-- first), the operations in the order of their invocations, and whether the history is valid.
pub record Reading : Type 0 where
  pub number : ℕ
  pub place : ℕ
  pub start : Kind
  pub holds : List ℤ
  pub operations : List Operation
  pub valid : Bool

pub record SmallFile : Type 0 where
  pub bytes : List ℕ
  pub reading : Reading

-- What loading comes to.
abbrev pub reading_of : (M : Model) → Load M → Reading
reading_of M l =
    let h = M.history l.tester in record {
      number = l.number;
      place = l.place;
      start = h.start.kind;
      holds = state_of h.start.kind h.start.items;
      operations = held h;
      valid = h.valid;
    }

-- The claim: file by file, what loading comes to is what the file is read as.
abbrev pub AllRead : Model → List SmallFile → Type 0
AllRead M files = map (λ (f : SmallFile). reading_of M (load_of M f.bytes)) files ≡ map (λ (f : SmallFile). f.reading) files

-- Lines.

abbrev line : List ℕ → ℕ → ℕ → Kind → List ℤ → List Operation → Bool → SmallFile
line b n p k vs os valid = record { bytes = b; reading = record { number = n; place = p; start = k; holds = vs; operations = os; valid = valid } }

-- A header alone: an object and the values that it holds.
abbrev pub starts : List ℕ → Kind → List ℤ → SmallFile
starts b k vs = line b 0 0 k vs [] true

-- "A header refusal has place 0 and a fresh default register tester."
abbrev pub refuses : List ℕ → ℕ → SmallFile
refuses b n = line b n 0 (Register (pos 0)) (pos 0 ∷ []) [] true

-- Bytes behind a header, and the operations that are recorded: "number and place are 0 if all loads".
abbrev pub reads : SmallFile → List ℕ → List Operation → SmallFile
reads h b os = line (h.bytes ++ b) 0 0 h.reading.start h.reading.holds os true

-- "Loading stops at the first refusal of any kind. It returns the number, the place of that event's first byte, and the tester as it stands."
abbrev pub stops : SmallFile → List ℕ → List Operation → ℕ → ℕ → SmallFile
stops h b os n p = line (h.bytes ++ b) n p h.reading.start h.reading.holds os true

-- So it does at 4 and 5, and the history is invalid.
abbrev pub breaks : SmallFile → List ℕ → List Operation → ℕ → ℕ → SmallFile
breaks h b os n p = line (h.bytes ++ b) n p h.reading.start h.reading.holds os false
