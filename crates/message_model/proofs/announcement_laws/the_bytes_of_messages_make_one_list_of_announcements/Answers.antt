use Rattle.std.proofs.Common.{refl}
use Rattle.message_model.proofs.SameMessageAnnouncements.{message_same, body_same, stream_same}
use Rattle.message_model.proofs.announcement_laws.the_bytes_of_messages_make_one_list_of_announcements.Goals as goal

pub returns-clause-message : goal.returns-clause-message
returns-clause-message c reg waits heard t u m n b c' d e sound first second same = message_same reg sound.named waits heard m n b c' t u d e first second same

pub returns-clause-body : goal.returns-clause-body
returns-clause-body c reg ws body heard t u ms ns sound first second = (body_same reg sound.named ws body body heard heard ms ns t u first second refl refl).0

pub returns-clause-stream : goal.returns-clause-stream
returns-clause-stream c reg wss s heard t u mss nss sound first second = stream_same reg sound.named wss s s heard heard mss nss t u first second refl refl
