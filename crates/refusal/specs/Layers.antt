-- The words by which the layers are told.
use Rattle.std.specs.Prelude.{List, ℕ, codes}
use Rattle.refusal.specs.declared.Layer.{Layer}
use Rattle.refusal.specs.declared.Layer.TheVariants.{Link, Glass, Board, File}

abbrev pub layer_name : Layer → List ℕ
layer_name Link = codes "link"
layer_name Glass = codes "glass"
layer_name Board = codes "board"
layer_name File = codes "file"
