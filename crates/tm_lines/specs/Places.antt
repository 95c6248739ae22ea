-- What a contract sees of the place that a reader of lines keeps.
use Rattle.std.specs.Prelude.{List, map, reverse, length}
use Rattle.tm_programs.specs.Instructions.{Block, Loop, Choice}
use Rattle.tm_lines.specs.declared.places.OpenBlock.{OpenBlock}
use Rattle.tm_lines.specs.declared.places.OpenBlock.TheVariants as open_block
use Rattle.tm_lines.specs.declared.places.Place.TheInside.{Inside}
use Rattle.tm_lines.specs.LineFaults.{Place}

abbrev pub block_of : OpenBlock → Block
block_of (open_block.Loop asks) = Loop asks
block_of open_block.Choice = Choice

-- The open blocks, innermost first, of which the code keeps the innermost last.
abbrev pub stack_of : List OpenBlock → List Block
stack_of blocks = reverse (map block_of blocks)

abbrev pub place_of : Inside → Place
place_of a = record {
  inside = a.inside;
  earlier = reverse (map (λ name. name.now) a.names.items);
  objects = length a.names.items;
  threads = a.threads;
  instructions = a.instructions;
  blocks = stack_of a.blocks.items;
}
