use Rattle.fixed_cost.specs.Reading.{is_within}
use Rattle.fixed_cost.specs.declared.fault.FileKind.TheVariants.{BadSize}
use Rattle.fixed_cost.proofs.ReadSteps.{size_at-same}
use Rattle.table_words.specs.Tables.{is_customer_count}
use Rattle.table_words.proofs.Counts.{is_within-most, within-most}
use Rattle.table_words.proofs.read_customer_count.Goals as goal

pub returns-clause-read : goal.returns-clause-read
returns-clause-read c =
    let same = size_at-same BadSize (is_within 1 c.min-most.result) (is_customer_count c.args.sites) c.args.reader.now (λ n. rw c.min-most.ensures (is_within-most c.args.sites n c.requires.some)) in
    rw (← same) c.size.ensures.read

pub returns-clause-within : goal.returns-clause-within
returns-clause-within c = within-most c.size.result c.args.sites c.min-most.result c.requires.some c.requires.few c.min-most.ensures c.size.ensures.low c.size.ensures.high
