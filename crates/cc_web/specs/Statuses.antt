-- The statuses of responses (RFC 9110).
use Rattle.std.specs.Prelude.{ℕ, List, codes}
use Rattle.cc_web.specs.declared.status.Status.{Status}
use Rattle.cc_web.specs.declared.status.Status.TheVariants as status

abbrev pub code_of : Status → ℕ
code_of status.Ok = 200
code_of status.NoContent = 204
code_of status.BadRequest = 400
code_of status.Forbidden = 403
code_of status.NotFound = 404
code_of status.NotAllowed = 405
code_of status.Conflict = 409
code_of status.Gone = 410
code_of status.TooLarge = 413
code_of status.Unsupported = 415
code_of status.Fault = 500
code_of status.Unavailable = 503
code_of status.Late = 504

abbrev pub title_of : Status → List ℕ
title_of status.Ok = codes "OK"
title_of status.NoContent = codes "No Content"
title_of status.BadRequest = codes "Bad Request"
title_of status.Forbidden = codes "Forbidden"
title_of status.NotFound = codes "Not Found"
title_of status.NotAllowed = codes "Method Not Allowed"
title_of status.Conflict = codes "Conflict"
title_of status.Gone = codes "Gone"
title_of status.TooLarge = codes "Content Too Large"
title_of status.Unsupported = codes "Unsupported Media Type"
title_of status.Fault = codes "Internal Server Error"
title_of status.Unavailable = codes "Service Unavailable"
title_of status.Late = codes "Gateway Timeout"
