use Rattle.pixel.proofs.Colouring.{exchanged_back, mode_back, short_back, short_blue, short_green, short_red, turning}
use Rattle.pixel.proofs.Meeting.{met_bits, met_fits}
use Rattle.pixel.proofs.Places.{address_back, offsets}
use Rattle.pixel.proofs.Windows.{start_holds, step_holds}
use Rattle.pixel.proofs.laws.Goals as goal

pub returns : goal.returns
returns _ = record {
  meeting = met_bits;
  met_fits = met_fits;
  exchanging = exchanged_back;
  short_red = short_red;
  short_green = short_green;
  short_blue = short_blue;
  short_back = short_back;
  mode_back = mode_back;
  starts_inside = start_holds;
  steps_inside = step_holds;
  turning = turning;
  address_back = address_back;
  offset_inside = λ s a o e. (offsets s a o e).inside;
  offset_row = λ s a o e. (offsets s a o e).row;
  offset_column = λ s a o e. (offsets s a o e).column;
}
