use Rattle.std.proofs.Common.{sym, ap, ◌∙◌}
use Rattle.name_table.specs.Names.{is_among}
use Rattle.name_table.proofs.Found.{is_among-bytes_of}
use Rattle.name_table.proofs.NameTable.contains.Goals as goal

pub returns : goal.returns
returns c =
    c.contains.ensures ∙ sym (is_among-bytes_of c.args.name.now c.self.inside.names.keys) ∙ ap (is_among c.args.name.now) c.self.view_is
