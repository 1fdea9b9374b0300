-- The number and the layer of a link's refusal.
use Rattle.std.specs.Prelude.{ℕ}
use Rattle.refusal.specs.declared.Layer.{Layer}
use Rattle.refusal.specs.declared.Layer.TheVariants.{Link}
use Rattle.link.specs.declared.LinkFault.{LinkFault}
use Rattle.link.specs.declared.LinkFault.TheVariants.{Wide}

abbrev pub fault_number : LinkFault → ℕ
fault_number Wide = 1

abbrev pub fault_layer : LinkFault → Layer
fault_layer Wide = Link
