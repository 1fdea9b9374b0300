use Rattle.registers.proofs.Keeps.{obeyed_sound}
use Rattle.lgdp4522.proofs.Sounds.{all_sound, fitted_sound, format_kept}
use Rattle.lgdp4522.proofs.laws.Goals as goal

pub returns : goal.returns
returns c = record { fitted_sound = fitted_sound; items_keep = obeyed_sound; signals_keep = all_sound; format_stays = format_kept }
