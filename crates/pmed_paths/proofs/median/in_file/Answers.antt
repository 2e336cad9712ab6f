use Rattle.std.proofs.Common.{◌≤◌, sym, subst}
use Rattle.number_words.specs.Words.{words_of}
use Rattle.fixed_cost.specs.declared.fault.FileFault.{FileFault}
use Rattle.pmed_paths.proofs.Medians.{end_positive}
use Rattle.pmed_paths.proofs.median.in_file.Goals as goal

pub too_big-requires : goal.too_big-requires
too_big-requires c = subst (λ (f : FileFault). 1 ≤ f.word) (sym c.ended.ensures) (end_positive (words_of c.args.bytes.now))
