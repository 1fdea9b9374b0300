-- The number and the layer of a glass's refusal.
use Rattle.std.specs.Prelude.{ℕ, Ok, Err, Result}
use Rattle.refusal.specs.declared.Layer.{Layer}
use Rattle.refusal.specs.declared.Layer.TheVariants.{Glass}
use Rattle.glass.specs.declared.GlassFault.{GlassFault}
use Rattle.glass.specs.declared.GlassFault.TheVariants.{Asleep, Window, Outside, Colour, Unseen, UnknownMode}

abbrev pub fault_number : GlassFault → ℕ
fault_number Asleep = 2
fault_number Window = 3
fault_number Outside = 4
fault_number Colour = 5
fault_number Unseen = 6
fault_number UnknownMode = 15

abbrev pub fault_layer : GlassFault → Layer
fault_layer Asleep = Glass
fault_layer Window = Glass
fault_layer Outside = Glass
fault_layer Colour = Glass
fault_layer Unseen = Glass
fault_layer UnknownMode = Glass

-- a call's answer by its number: 0 if it was accepted
abbrev pub answered : {A : Type 0} → Result A GlassFault → ℕ
answered (Ok _) = 0
answered (Err e) = fault_number e
