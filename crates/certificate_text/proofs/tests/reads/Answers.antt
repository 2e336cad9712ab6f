use Rattle.certificate_text.proofs.tests.reads.Goals as goal

pub read_lines-requires : goal.read_lines-requires
read_lines-requires c = record { start = (c.args.limit, c.new-reader.ensures _ _ _) }
