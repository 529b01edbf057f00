-- The checker accepts every order that a judge gives.
use Rattle.std.specs.Prelude.{refl}
use Rattle.recording_meaning.specs.Models.{Model, sequential_model, linearizability_model}
use Rattle.judging.specs.declared.answer.Verdict.TheVariants.{Order}
use Rattle.judging.specs.Answers.{judge_of}
use Rattle.witness.specs.Words.{order_words}
use Rattle.witness.specs.Exactly.{check_exactly}
use Rattle.judging_meaning.specs.Judging.{order_in, Judges}
use Rattle.judging_meaning.proofs.Judged.{sequential_judges, linearizability_judges}
use Rattle.judging_meaning.specs.Accepted.{Accepts}

accepted : (M : Model) → Judges M → Accepts M
accepted M judges s b e =
    let sound = (((judges s b).verdict_exactly Order).0 e).0 in
    (check_exactly M s (order_words (order_in (judge_of M s b)))).1
    (sound.0, sound.1, (order_in (judge_of M s b), refl, ((judges s b).order_first e).legal))

pub sequential_accepted : Accepts sequential_model
sequential_accepted = accepted sequential_model sequential_judges

pub linearizability_accepted : Accepts linearizability_model
linearizability_accepted = accepted linearizability_model linearizability_judges
