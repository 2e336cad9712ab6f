use Rattle.number_words.specs.Scan.{words_behind}
use Rattle.number_words.proofs.WordSteps.{words_left-start}
use Rattle.number_words.proofs.scan.Words.new.Goals as goal

pub returns : goal.returns
unfolding words_behind
returns c = words_left-start c.args.bytes.now
