-- Whole captures: all of their events are taken, and their testers start from the object of the header.
use Rattle.std.specs.Prelude.{ℕ, ◌≡◌, Ok}
use Rattle.std.proofs.Math.Path.{refl}
use Rattle.std.proofs.Common.{ap}
use mathlib.Core.List.{List, [], ◌∷◌}
use Rattle.history.specs.Events.{Events}
use Rattle.families.specs.Families.{families}
use Rattle.stepping.specs.Drawn.{zero_taken}
use Rattle.recording_meaning.specs.Models.{Model}
use Rattle.recording_meaning.specs.Lawful.{Lawful}
use Rattle.recording_meaning.specs.Inputs.{as_inputs, taken}
use Rattle.recording_meaning.specs.InputLaws.{takes_event}
use Rattle.recording_meaning.specs.Meaning.{Fresh}
use Rattle.recording_meaning.proofs.Meant.{meaning}
use Rattle.corpus.specs.Load.{record_event}
use Rattle.corpus.specs.Loaded.{AllRecorded}
use Rattle.corpus.specs.Files.{Whole}
use Rattle.corpus.specs.FileStarts.{made_new}

module _ (M : Model) where
  pub all_taken : (l : Events families) (t : M.Tester) → AllRecorded M t l → taken M t (as_inputs l) ≡ l
  all_taken [] t a = refl
  all_taken (v ∷ l) t a =
      rw (takes_event M t v, zero_taken (record_event M t v).0 a.0) (ap (λ (k : Events families). v ∷ k) (all_taken l (record_event M t v).1 a.1))

  -- the tester is a fresh one of the header's object
  pub begins_fresh : (L : Lawful M) (file : List ℕ) (c : Whole M file) → Fresh M c.start (M.new c.start)
  begins_fresh L file c = (meaning M L).new_leaves c.start (Ok tt) (made_new M (meaning M L) file c.start c.first c.head)
