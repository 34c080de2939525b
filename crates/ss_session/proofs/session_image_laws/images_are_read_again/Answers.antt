use Rattle.ss_session.proofs.SessionStateImages.{states_are_read_again}
use Rattle.ss_session.proofs.session_image_laws.images_are_read_again.Goals as goal

pub returns : goal.returns
returns c =
    states_are_read_again c.numbers_are_read_again.ensures c.sessions_follow.ensures.join c.sessions_are_apart.ensures.all c.sessions_are_of_rows.ensures
