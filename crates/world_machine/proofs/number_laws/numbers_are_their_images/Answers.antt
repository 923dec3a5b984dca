use Rattle.world_machine.proofs.Kept.{reached_kept}
use Rattle.world_machine.proofs.NumberImages.{each_is_its_image}
use Rattle.world_machine.proofs.number_laws.numbers_are_their_images.Goals as goal

pub returns : goal.returns
returns c digest_of law w reached = each_is_its_image digest_of w (reached_kept digest_of law w reached)
