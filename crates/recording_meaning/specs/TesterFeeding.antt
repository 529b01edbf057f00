-- Fed from fresh, whatever the inputs: the rows are those of the recorded events, validity is off exactly if some input drew 4 or 5, and len counts
-- the invocations recorded.
use Rattle.std.specs.Prelude.{◌+◌, ◌≡◌, Bool, ◌&&◌, not, ◌++◌}
use Rattle.history.specs.Events.{Events}
use Rattle.history.specs.Rows.{Rows}
use Rattle.history.specs.Recorder.{Feeds}
use Rattle.families.specs.Families.{families}
use Rattle.recording_meaning.specs.Models.{Model, tester_rows}
use Rattle.recording_meaning.specs.Lawful.{Lawful}
use Rattle.recording_meaning.specs.Inputs.{invocations_in}

module _ (M : Model) (L : Lawful M) where
  -- What a call does to rows, validity and count, where the events H are recorded of it, and it drew 4 or 5 or not.
  pub record Step (s : M.Tester) (H : Events families) (turned : Bool) (next : M.Tester) : Type 0 where
    pub reads : {end : Rows families} {K : Events families} → Feeds families M.keep (tester_rows M next) K end
        → Feeds families M.keep (tester_rows M s) (H ++ K) end
    pub valid : (M.history next).valid ≡ (M.history s).valid && not turned
    pub count : (M.history next).count ≡ (M.history s).count + invocations_in H
    pub start : (M.history next).start ≡ (M.history s).start
