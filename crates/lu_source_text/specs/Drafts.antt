-- What the drafts of the code stand for.
use Rattle.std.specs.Prelude.{List, map, reverse}
use Rattle.std.specs.Option.{option_map}
use Rattle.lu_source.specs.Programs.{operation_of}
use Rattle.lu_source.specs.Shapes.{tree_of}
use Rattle.lu_source_text.specs.declared.draft.Begun.{Begun as HeldBegun}
use Rattle.lu_source_text.specs.declared.draft.Block.{Block as HeldBlock}
use Rattle.lu_source_text.specs.declared.draft.Draft.{Draft}
use Rattle.lu_source_text.specs.declared.draft.Opening.{Opening as HeldOpening}
use Rattle.lu_source_text.specs.declared.draft.Opening.TheVariants as held
use Rattle.lu_source_text.specs.Grammar.{Begun, Block, Drafted, Opening}
use Rattle.lu_source_text.specs.Grammar.Opening.{Whole, Test, Other, Turns}

-- what opened a block, without the boxes that its statements stand in
abbrev pub opening_of : HeldOpening → Opening
opening_of held.Whole = Whole
opening_of (held.Test v) = Test v
opening_of (held.Other v t) = Other v (tree_of t)
opening_of held.Turns = Turns

abbrev pub block_of : HeldBlock → Block
block_of b = record {
  opening = opening_of b.opening;
  does = tree_of b.does;
  locals = b.locals;
  chained = b.chained;
}

-- the open blocks, of which the innermost is the last in the code
abbrev pub blocks_of : List HeldBlock → List Block
blocks_of blocks = map block_of (reverse blocks)

abbrev pub begun_of : HeldBegun → Begun
begun_of b = record {
  name = b.name;
  args = b.args;
  lines = b.lines;
  locals = b.locals.items;
  blocks = blocks_of b.blocks.items;
}

abbrev pub drafted_of : Draft → Drafted
drafted_of d = record {
  name = d.name;
  local = d.local;
  constants = d.constants;
  words = d.words.items;
  locks = d.locks.items;
  operations = map operation_of d.operations.items;
  begun = option_map begun_of d.begun;
}
