use Rattle.std.proofs.Common.{◌≡◌, length, rules, arith}
use Rattle.pmed_paths.proofs.Searches.{written}
use Rattle.pmed_paths.proofs.labels.labels_from.Goals as goal

pub returns : goal.returns
returns c =
    let room : length c.in_ok-labels.labels.items ≡ c.in_ok-labels.labels.len = search rules in
    let long : length c.search.new.labels ≡ c.in_ok-labels.labels.len = omega (arith, c.search.auto.labels, c.deref_mut.ensures.len) in
    rw (written c.search.new.labels c.in_ok-labels.labels.items c.in_ok-labels.labels.len long room) c.in_ok-search.ensures
