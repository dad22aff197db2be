use Rattle.std.proofs.Common.{sym, ap, ◌∙◌}
use Rattle.name_table.specs.Names.{index_of}
use Rattle.name_table.proofs.Found.{index_of-bytes_of}
use Rattle.name_table.proofs.NameTable.find.Goals as goal

pub returns : goal.returns
returns c =
    c.get_index_of.ensures.index ∙ sym (index_of-bytes_of c.args.name.now c.self.inside.names.keys) ∙ ap (index_of c.args.name.now) c.self.view_is
