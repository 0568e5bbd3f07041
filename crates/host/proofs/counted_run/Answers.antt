use mathlib.Core.Path.{ap}
use native.Mathlib.Omega.{arith}
use Rattle.common.specs.Answers.{number_of}
use Rattle.lists.specs.Run.{MadeCalls}
use Rattle.host.specs.Host.{result_word}
use Rattle.host.proofs.counted_run.Goals as goal

pub returns : goal.returns
unfolding result_word
returns c =
    let ran = c.run_counted-ran.ensures in
    let same = ran.1 in
    record {
      result = omega (arith, c.result_word.ensures, ap number_of ran.0, ap (λ (m : MadeCalls). m.made) same);
      table = ap (λ (m : MadeCalls). m.table) same;
      log = ap (λ (m : MadeCalls). m.log) same;
      answers = ap (λ (m : MadeCalls). m.places) same;
    }
