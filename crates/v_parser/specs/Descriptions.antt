-- Modules, primitives and directives up to the end of a text.
use Rattle.std.specs.Prelude.{List, codes}
use Rattle.v_tree.specs.declared.modules.Description.{Description}
use Rattle.v_tree.specs.declared.modules.Description.TheVariants as described
use Rattle.v_parser.specs.Input.{Reader, ◌<$>◌, ◌&◌, finish, is_finish, choice, many}
use Rattle.v_parser.specs.Modules.{sees_word, module_at}
use Rattle.v_parser.specs.Directives.{sees_some_directive, directive}
use Rattle.v_parser.specs.Primitives.{udp}

-- a directive, or a module
unfoldable pub others : Reader Description
others =
    choice sees_some_directive (described.Directive <$> directive) (described.Module <$> module_at)

-- a module, a primitive or a directive
unfoldable pub description : Reader Description
description = choice (sees_word (codes "primitive")) (described.Udp <$> udp) others

-- descriptions up to the end of the text
unfoldable pub descriptions : Reader (List Description)
descriptions = (λ z. z.0) <$> (many is_finish description & finish)
